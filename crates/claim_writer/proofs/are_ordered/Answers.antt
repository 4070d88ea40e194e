-- What is left to test gives the whole.
use Rattle.std.proofs.Common.{◌≡◌, ℕ, ◌-◌, List, length, drop, refl, sym, ◌∙◌, arith, rules}
use Rattle.claim_writer.specs.search.Bytes.{ordered}
use Rattle.claim_writer.proofs.laws.Named.{ordered_turn, ordered_done}
use Rattle.claim_writer.proofs.are_ordered.Goals as goal

at_first : (g : List ℕ) (n : ℕ) → ordered (n - 0) 0 (drop 0 g) ≡ ordered n 0 g
at_first g n = let e : n - 0 ≡ n = omega arith in rw e

pub loop-i-init : goal.loop-i-init
loop-i-init c = at_first c.args.g c.args.n

pub returns-then-not-in_order : goal.returns-then-not-in_order
returns-then-not-in_order c =
    let l = c.loop-i in
    let four : length c.args.g ≡ 4 = search rules in
    sym (ordered_turn c.args.n l.i l.low c.args.g (omega (arith, four, c.loop-i-test.true)) ∙ rw (← c.in_order.ensures, c.if-not-in_order.true)) ∙ l.invariant

pub loop-i-preserved : goal.loop-i-preserved
loop-i-preserved c =
    let l = c.loop-i in
    let four : length c.args.g ≡ 4 = search rules in
    sym (ordered_turn c.args.n l.i l.low c.args.g (omega (arith, four, c.loop-i-test.true)) ∙ rw (← c.in_order.ensures, c.if-not-in_order.false)) ∙ l.invariant

pub returns : goal.returns
returns c =
    let l = c.loop-i in
    let four : length c.args.g ≡ 4 = search rules in
    sym (ordered_done (c.args.n - l.i) l.i l.low c.args.g (omega (arith, c.loop-i-test.false))) ∙ l.invariant
