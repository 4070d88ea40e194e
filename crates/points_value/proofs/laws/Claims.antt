-- The proofs of the claims.
use Rattle.std.specs.Prelude.{◌≡◌, true, cond, ℕ, eqb}
use Rattle.std.proofs.Math.Path.{refl}
use Rattle.yaku.specs.Yaku.{yakuman}
use Rattle.yaku.specs.declared.Won.{Won}
use Rattle.yaku.specs.declared.FullReading.{FullReading}
use Rattle.points.specs.Points.{basic}
use Rattle.points.specs.declared.Seats.{Seats}
use Rattle.points_value.specs.Han.{han_of}
use Rattle.points_fu.specs.Fu.{rounded, items_of, added, fu_of}
use Rattle.points_fu.specs.search.Items.{earned}
use Rattle.points_value.specs.Value.{value_of}
use Rattle.points_fu.proofs.laws.Items as items

module _ (w : Won) (p : FullReading) (dora : ℕ) (s : Seats) where
  pub items_add_up : added (value_of w p dora s).items ≡ (value_of w p dora s).fu.0
  unfolding value_of fu_of
  items_add_up = refl

  pub fu_of_sum : (value_of w p dora s).fu.0 ≡ cond (yakuman w p) 0 (cond (eqb p.shape 1) 25 (rounded w.closed (added (earned w p 0))))
  unfolding value_of
  fu_of_sum = items.fu_of_sum w p

  pub dora_is_no_yaku : (other : ℕ) → (value_of w p other s).yaku ≡ (value_of w p dora s).yaku
  unfolding value_of
  dora_is_no_yaku other = refl

  pub yakuman_pays_as_one : yakuman w p ≡ true → ((value_of w p dora s).han.0 ≡ 0) × ((value_of w p dora s).fu.0 ≡ 0) × ((value_of w p dora s).basic.0 ≡ 8000)
  unfolding value_of han_of items_of fu_of added basic
  yakuman_pays_as_one e = (rw e, rw e, rw e)
