-- The figures of every score are short, so that each fits in its columns.
use Rattle.std.specs.Prelude.{◌≡◌, Bool, true, false, cond, List, [], ◌∷◌, ℤ, pos, negsuc, length, get_or}
use Prim.Native.Nat.{ℕ, zero, suc, ◌≤◌, ◌<◌}
use native.Mathlib.Omega.{arith}
use Rattle.yaku.specs.Yaku.{is_yakuman}
use Rattle.score.specs.Score.{score_of}
use Rattle.score.proofs.laws.Z.{Within}
use Rattle.score.proofs.laws.Changes.{score_within}
use Rattle.text.specs.Text.{digits_of, signed_of}
use Rattle.text.proofs.laws.Digits.{length_below_power}
use Rattle.slip.specs.Slip.{values_of, line_at, slip_text}
use Rattle.slip.proofs.laws.Line.{line_long, label_short}
use Rattle.slip.proofs.laws.Lines.{flat_long}
use Rattle.score.proofs.laws.Small.{small}

-- ---- of its values

digits_short : (n : ℕ) → n < 1000 → length (digits_of n) ≤ 14
digits_short n h = omega (arith, length_below_power 2 n (omega arith))

change_short : (z : ℤ) → Within z 48000 → length (signed_of z) ≤ 14
unfolding signed_of
change_short (pos n) h = omega (arith, length_below_power 4 n (omega arith))
change_short (negsuc n) h = omega (arith, length_below_power 4 (suc n) (omega arith))

word_or : (b : Bool) (word text : List ℕ) → length word ≤ 14 → length text ≤ 14 → length (cond b word text) ≤ 14
word_or true word text h g = h
word_or false word text h g = g

module _ (s : List ℕ) (dealer wind : ℕ) where
  pub value_fits : (k : ℕ) → length (get_or (values_of (score_of s dealer wind)) k []) ≤ 14
  unfolding values_of
  value_fits zero = word_or (is_yakuman (score_of s dealer wind).yaku) _ _ (omega arith) (digits_short _ (small s dealer wind).0)
  value_fits (suc zero) = word_or (is_yakuman (score_of s dealer wind).yaku) _ _ (digits_short 0 (omega arith)) (digits_short _ (small s dealer wind).1)
  value_fits (suc (suc zero)) = change_short _ (score_within s dealer wind 0)
  value_fits (suc (suc (suc zero))) = change_short _ (score_within s dealer wind 1)
  value_fits (suc (suc (suc (suc zero)))) = change_short _ (score_within s dealer wind 2)
  value_fits (suc (suc (suc (suc (suc zero))))) = change_short _ (score_within s dealer wind 3)
  value_fits (suc (suc (suc (suc (suc (suc k)))))) = omega arith

  pub line_has_25_bytes : (k : ℕ) → length (line_at (score_of s dealer wind) k) ≡ 25
  unfolding line_at
  line_has_25_bytes k = line_long _ _ (label_short k) (value_fits k)

  pub text_has_150_bytes : length (slip_text (score_of s dealer wind)) ≡ 150
  unfolding slip_text
  text_has_150_bytes = flat_long (line_at (score_of s dealer wind)) line_has_25_bytes (0 ∷ 1 ∷ 2 ∷ 3 ∷ 4 ∷ 5 ∷ [])
