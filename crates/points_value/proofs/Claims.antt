-- What holds of every value (01, Yaku; Fu and points).
use Rattle.std.specs.Prelude.{◌≡◌, refl, true, false, ◌&&◌, not, cond, [], ◌∷◌, ℕ, ◌+◌, ◌-◌, ◌%◌, eqb}
use Rattle.yaku.specs.Yaku.{yakuman}
use Rattle.yaku.specs.declared.Won.{Won}
use Rattle.yaku.specs.declared.FullReading.{FullReading}
use Rattle.points.specs.declared.Seats.{Seats}
use Rattle.points_value.specs.Han.{han_for}
use Rattle.points_fu.specs.Fu.{items_of, added, fu_of}
use Rattle.points_fu.proofs.laws.Items as items
use Rattle.points_value.specs.Value.{value_of}
use Rattle.points_value.proofs.laws.Claims as laws

-- "Han; "c" closed only; "−1" one less when open": what yaku n, at index n, counts in an open hand; index 0 has none, and 13, 14, 15, 22, 23 and 25 are "−1"
pub open_han : (values : ℕ) → han_for false values
    ≡ 0 ∷ 0 ∷ 1 ∷ values ∷ 0 ∷ 0 ∷ 1 ∷ 1 ∷ 1 ∷ 1 ∷ 0 ∷ 0 ∷ 0 ∷ 1 ∷ 1 ∷ 1 ∷ 2 ∷ 2 ∷ 2 ∷ 2 ∷ 2 ∷ 0 ∷ 2 ∷ 2 ∷ 4 ∷ 5 ∷ []
open_han values = refl

module _ (w : Won) (p : FullReading) (dora : ℕ) (s : Seats) where
  -- the fu by the nine items beside rounding: "Round up to tens. An open 20 becomes 30. Seven pairs: 25"; with a yakuman "h and fu are 0"
  pub fu_rounded :
      let n = fu_of w p - (items_of w p).rounding.0 in
      fu_of w p ≡ cond (yakuman w p) 0 (cond (eqb p.shape 1) 25 (cond (not w.closed && eqb n 20) 30 (n + (10 - n % 10) % 10)))
  fu_rounded = items.fu_rounded w p

  -- "The items add up to the fu reported" (02, S-3)
  pub items_add_up : added (value_of w p dora s).items ≡ (value_of w p dora s).fu.0
  items_add_up = laws.items_add_up w p dora s

  -- dora "is no yaku"
  pub dora_is_no_yaku : (other : ℕ) → (value_of w p other s).yaku ≡ (value_of w p dora s).yaku
  dora_is_no_yaku other = laws.dora_is_no_yaku w p dora s other

  -- with a yakuman "h and fu are 0, and several pay as one"; "Yakuman 8,000"
  pub yakuman_pays_as_one :
      yakuman w p ≡ true →
      ((value_of w p dora s).han.0 ≡ 0) × ((value_of w p dora s).fu.0 ≡ 0) × ((value_of w p dora s).basic.0 ≡ 8000)
  yakuman_pays_as_one e = laws.yakuman_pays_as_one w p dora s e
