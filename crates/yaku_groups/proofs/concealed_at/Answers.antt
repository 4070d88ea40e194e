-- `yaku_groups::concealed_at` meets its contract: a triplet that is completed by ron is open.
use Rattle.std.proofs.Common.{◌≡◌, ◌+◌, ◌-◌, ap, sym, ◌∙◌, ltb, ◌&&◌, rules, arith, length}
use Rattle.yaku_basics.specs.Tests.{concealed}
use Rattle.yaku_basics.specs.search.Ways.{ways_at}
use Rattle.yaku_basics.proofs.laws.Ways.{ways_same, byte_of, opened_some, opened_none, concealed_ron}
use Rattle.yaku_groups.proofs.concealed_at.Goals as goal

-- what the group takes off the count
taken : (c : goal.After-from) → concealed c.args.g (ways_at c.args.ways c.args.ron c.args.place) + c.from.result ≡ c.args.all
taken c =
    let a = c.args in
    let long : length a.ways ≡ 4 = search rules in
    let o = opened_some (a.ron && ltb 0 a.place) (a.place - 1) c.in-Some.i (sym c.in-Some.ensures) in
    rw (c.from.ensures ∙ byte_of _, c.is_concealed.ensures, o.1) (concealed_ron a.g a.ways long a.ron a.place c.requires.1 o.0 ∙ sym c.requires.0)

pub overflow_sub-result : goal.overflow_sub-result
overflow_sub-result c = omega (arith, taken c)

pub returns-in-Some : goal.returns-in-Some
returns-in-Some c = omega (arith, taken c)

pub returns-in-None : goal.returns-in-None
returns-in-None c =
    let a = c.args in
    c.requires.0 ∙ ap (concealed a.g) (sym (ways_same a.ways a.ron a.place (opened_none (a.ron && ltb 0 a.place) (a.place - 1) (sym c.in-None.ensures))))
