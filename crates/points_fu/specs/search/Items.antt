-- What the groups earn and the items before rounding, as the code has them: by four codes and four ways, for all places of the winning tile.
use Rattle.std.specs.Prelude.{◌&&◌, not, cond, List, ℕ, get_or}
use Rattle.tiles.specs.Below.{tabulate}
use Rattle.units.specs.declared.Fu.{Fu}
use Rattle.yaku_basics.specs.Tests.{is_value}
use Rattle.yaku.specs.Yaku.{has_wait_fu, pinfu}
use Rattle.yaku.specs.declared.Won.{Won}
use Rattle.yaku.specs.declared.FullReading.{FullReading}
use Rattle.points_fu.specs.Fu.{fu, group_fu}
use Rattle.points_fu.specs.declared.Items.{Items}

-- the items of groups g with ways
unfoldable pub items_by : List ℕ → List ℕ → List Fu
items_by g ways = tabulate 4 0 (λ i. fu (group_fu (get_or g i 0) (get_or ways i 0)))

-- the items of a regular reading, where rounding adds r
unfoldable pub earned : Won → FullReading → ℕ → Items
earned w p r = record {
  base = fu 20;
  ron = fu (cond (w.closed && w.ron) 10 0);
  pair = fu (cond (is_value w.round w.own p.pair) 2 0);
  group = items_by p.groups p.ways;
  wait = fu (cond (has_wait_fu w p) 2 0);
  tsumo = fu (cond (not w.ron && not (pinfu w p)) 2 0);
  rounding = fu r;
}
