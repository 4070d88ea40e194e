use Rattle.std.proofs.Common.{◌≡◌, sym, ◌∙◌, rules, arith}
use Rattle.std.proofs.iter.runs.Made.{chains}
use Rattle.std.specs.List.{count_by}
use Rattle.waits.specs.search.Over.{is_over}
use Rattle.waits.proofs.laws.Over.{Told, one_told, all_counted, none_over, many_over, sort_low}
use Rattle.waits.proofs.open_sorts.Goals as goal

pub loop-c-preserved : goal.loop-c-preserved
unfolding is_over
loop-c-preserved c = one_told _ _ _ _ c.loop-c-test.true (rw c.of_sort.ensures) c.loop-c.invariant

pub returns-then-many : goal.returns-then-many
returns-then-many c k n h q =
    let l = c.loop-c in
    let e : l.c ≡ 10 = omega arith in
    let o : Told c.args.t.now 10 l.o-items = rw e at l.invariant in
    let f : c.count-n.result ≡ count_by (λ b. b) l.o-items = search (rules, chains) in
    many_over c.args.t.now k n c.requires.0 h (omega (arith, all_counted _ _ o, c.if-many.true))

pub returns-else-many : goal.returns-else-many
returns-else-many c k n h q =
    let l = c.loop-c in
    none_over c.args.t.now k n c.requires.0 h (sym (l.invariant.told _ (omega (arith, sort_low k h))) ∙ q)
