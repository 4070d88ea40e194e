-- `yaku::is_yakuman` meets its contract.
use Rattle.std.proofs.Common.{◌∙◌, refl, rules, arith, length, ◌≡◌, ◌+◌, false, get_or}
use Rattle.tiles.specs.Below.{tabulate}
use Rattle.yaku.specs.Yaku.{is_yakuman}
use Rattle.yaku.proofs.laws.Lists.{some_at, from_at}
use Rattle.yaku.proofs.is_yakuman.Goals as goal

pub returns : goal.returns
unfolding is_yakuman
returns c =
    let long : length c.args.y ≡ 37 = search rules in
    let eleven = from_at 26 11 c.args.y (omega (arith, long)) in
    c.some.ensures ∙ rw eleven (some_at (tabulate 11 0 (λ k. get_or c.args.y (26 + k) false)) 11 refl)
