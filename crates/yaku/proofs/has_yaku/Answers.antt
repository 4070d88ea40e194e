-- `yaku::has_yaku` meets its contract.
use Rattle.std.proofs.Common.{◌∙◌, rules}
use Rattle.tiles.specs.Below.{any_below}
use Rattle.yaku.specs.Yaku.{has_yaku}
use Rattle.yaku.proofs.laws.Lists.{some_at}
use Rattle.yaku.proofs.has_yaku.Goals as goal

pub returns : goal.returns
unfolding has_yaku any_below
returns c = c.some.ensures ∙ some_at c.args.y 37 (search rules)
