-- What document 02, S-8 says of article 67 (004): `gives` is what each seat gets or pays, sticks left out, `whole` the yakuman, `more` its counters' points.
use Rattle.std.specs.Prelude.{◌≡◌, Bool, true, false, ℕ, ◌+◌, ◌/◌, ℤ, pos, neg_ℤ}

pub record Article67 (winner discarder feeder : ℕ) (ron : Bool) (whole more : ℕ) (gives : ℕ → ℤ) : Type 0 where
  -- "The winner's gain is what it was"
  pub gain : gives winner ≡ pos (whole + more)
  -- "the feeder pays the whole on tsumo, counters included"
  pub tsumo : ron ≡ false → gives feeder ≡ neg_ℤ (pos (whole + more))
  -- "On ron the feeder and the discarder pay half each, the discarder paying the counters"
  pub halves : ron ≡ true → (feeder ≡ discarder → ⊥) → (gives feeder ≡ neg_ℤ (pos (whole / 2))) × (gives discarder ≡ neg_ℤ (pos (whole / 2 + more)))
  -- "if they are one seat it pays all"
  pub one : ron ≡ true → feeder ≡ discarder → gives feeder ≡ neg_ℤ (pos (whole + more))
  -- and nobody else pays
  pub others : (i : ℕ) → (i ≡ winner → ⊥) → (i ≡ feeder → ⊥) → (ron ≡ true → i ≡ discarder → ⊥) → gives i ≡ pos 0
