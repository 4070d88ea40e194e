-- `yaku_groups::kans` meets its contract.
use Rattle.std.proofs.Common.{◌≡◌, length, rules, arith}
use Rattle.yaku_basics.proofs.laws.Ways.{four}
use Rattle.yaku_basics.specs.Tests.{kans}
use Rattle.yaku_groups.proofs.kans.Goals as goal

pub returns : goal.returns
unfolding kans
returns c =
    let long : length c.args.ways ≡ 4 = search rules in
    let end : c.loop-way.way-index ≡ 4 = search rules in
    rw (c.loop-way.invariant, end, four 0 c.args.ways long) (omega arith)
