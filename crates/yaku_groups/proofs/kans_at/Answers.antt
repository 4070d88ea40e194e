-- `yaku_groups::kans_at` meets its contract: a group that is completed by ron is no kan.
use Rattle.std.proofs.Common.{◌≡◌, ◌+◌, ◌-◌, ap, sym, ◌∙◌, ltb, ◌&&◌, rules, arith, length, []}
use Rattle.yaku_basics.specs.Tests.{kans}
use Rattle.yaku_basics.specs.search.Ways.{ways_at}
use Rattle.yaku_basics.proofs.laws.Ways.{ways_same, byte_of, opened_some, opened_none, kans_ron}
use Rattle.yaku_groups.proofs.kans_at.Goals as goal

-- what the group takes off the count
taken : (c : goal.After-from) → kans (ways_at c.args.ways c.args.ron c.args.place) + c.from.result ≡ c.args.all
taken c =
    let a = c.args in
    let long : length a.ways ≡ 4 = search rules in
    let o = opened_some (a.ron && ltb 0 a.place) (a.place - 1) c.in-Some.i (sym c.in-Some.ensures) in
    rw (c.from.ensures ∙ byte_of _, o.1) (kans_ron [] a.ways long a.ron a.place c.requires.1 o.0 ∙ sym c.requires.0)

pub overflow_sub-result : goal.overflow_sub-result
overflow_sub-result c = omega (arith, taken c)

pub returns-in-Some : goal.returns-in-Some
returns-in-Some c = omega (arith, taken c)

pub returns-in-None : goal.returns-in-None
returns-in-None c =
    let a = c.args in
    c.requires.0 ∙ ap kans (sym (ways_same a.ways a.ron a.place (opened_none (a.ron && ltb 0 a.place) (a.place - 1) (sym c.in-None.ensures))))
