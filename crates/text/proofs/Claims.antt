-- The theorems of numbers as text (01, Log: "Scores print most significant digit first, a minus before negatives").
use Rattle.std.specs.Prelude.{◌≡◌, ℕ, ◌≤◌, ◌<◌, length, get_or, ℤ}
use Rattle.text.specs.Text.{digits_of, signed_of}
use Rattle.text.specs.Back.{number_in, signed_in}
use Rattle.text.proofs.laws.Back as laws

-- "most significant digit first": the digits of a number, read back, are the number
pub digits_back : (n : ℕ) → number_in (digits_of n) ≡ n
digits_back n = laws.digits_back n

-- "a minus before negatives": the text of a number with its sign, read back, is the number
pub signed_back : (z : ℤ) → signed_in (signed_of z) ≡ z
signed_back z = laws.signed_back z

-- "digit": each byte is one, 48 to 57
pub digits_are_digits : (n k : ℕ) → k < length (digits_of n) → (48 ≤ get_or (digits_of n) k 0) × (get_or (digits_of n) k 0 ≤ 57)
digits_are_digits n k h = laws.digits_are_digits n k h

-- and only 0 starts with a 0
pub no_leading_zero : (n : ℕ) → 0 < n → 48 < get_or (digits_of n) 0 0
no_leading_zero n h = laws.no_leading_zero n h
