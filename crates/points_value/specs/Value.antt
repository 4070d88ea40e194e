-- What a reading is worth (01, Fu and points).
use Rattle.std.specs.Prelude.{ℕ}
use Rattle.yaku.specs.Yaku.{yaku_of, yakuman}
use Rattle.yaku.specs.declared.Won.{Won}
use Rattle.yaku.specs.declared.FullReading.{FullReading}
use Rattle.points.specs.Points.{basic, gain}
use Rattle.points.specs.declared.Seats.{Seats}
use Rattle.points_value.specs.Han.{han_of}
use Rattle.points_fu.specs.Fu.{items_of, fu_of}
use Rattle.points_value.specs.declared.Value.{Value}

-- "A" of the reading
abbrev pub basic_of : Won → FullReading → ℕ → ℕ
basic_of w p dora = basic (yakuman w p) (han_of w p dora) (fu_of w p)

-- "h, fu, yaku set" of the reading, the items of its fu (02, S-3), A, and "the winner's gain"
unfoldable pub value_of : Won → FullReading → ℕ → Seats → Value
value_of w p dora s = record {
  yaku = yaku_of w p;
  han = record { 0 = han_of w p dora };
  items = items_of w p;
  fu = record { 0 = fu_of w p };
  basic = record { 0 = basic_of w p dora };
  gain = record { 0 = gain s w.ron (basic_of w p dora) };
}
