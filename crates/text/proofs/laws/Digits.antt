-- The digits of a number one by one, how many there are, and that they read back.
use Rattle.std.specs.Prelude.{◌≡◌, refl, Bool, true, false, cond, List, [], ◌∷◌, ◌++◌, ℕ, zero, suc, ◌+◌, ◌*◌, ◌/◌, ◌%◌, ◌≤◌, ◌<◌, ◌^◌, ltb, length, ℤ, pos, negsuc, nat_abs}
use Rattle.std.proofs.Common.{ap, arith, ltb-true, ltb-false, lt-ltb, le-ltb, length-append, SFits}
use Rattle.std.specs.Int.Signed.{lt_z}
use Rattle.std.specs.Int.{w32}
use Rattle.text.specs.Text.{last_digits, digits_of, signed_of}

guarded : (n : ℕ) (t : Bool) → ltb n 10 ≡ t → (a b : List ℕ) → (10 ≤ n → a ≡ b) → cond t [] a ≡ cond t [] b
guarded n true e a b h = refl
guarded n false e a b h = h (ltb-false n 10 e)

-- more than enough digits are all of them
enough : (k j n : ℕ) → n < k → n < j → last_digits k n ≡ last_digits j n
unfolding last_digits
enough zero j n h g = absurd (omega arith)
enough (suc k) zero n h g = absurd (omega arith)
enough (suc k) (suc j) n h g =
    ap (λ (l : List ℕ). l ++ ((48 + n % 10) ∷ []))
    (guarded n (ltb n 10) refl (last_digits k (n / 10)) (last_digits j (n / 10)) (λ m. enough k j (n / 10) (omega arith) (omega arith)))

-- one digit, and more
pub digits_one : (n : ℕ) → n < 10 → digits_of n ≡ (48 + n) ∷ []
unfolding digits_of last_digits
digits_one n h = simp (lt-ltb n 10 h) (ap (λ (d : ℕ). (48 + d) ∷ []) (omega arith))

pub digits_more : (n : ℕ) → 10 ≤ n → digits_of n ≡ digits_of (n / 10) ++ ((48 + n % 10) ∷ [])
unfolding digits_of last_digits
digits_more n h =
    simp (le-ltb n 10 h) (ap (λ (l : List ℕ). l ++ ((48 + n % 10) ∷ [])) (enough n (suc (n / 10)) (n / 10) (omega arith) (omega arith)))

pub length_one : (n : ℕ) → n < 10 → length (digits_of n) ≡ 1
length_one n h = rw (digits_one n h)

pub length_more : (n : ℕ) → 10 ≤ n → length (digits_of n) ≡ length (digits_of (n / 10)) + 1
length_more n h = rw (digits_more n h, length-append)

-- a number below ten to the k has at most k digits, so one of 32 bits has at most ten
length_tenth : (n k : ℕ) (t : Bool) → ltb n 10 ≡ t → length (digits_of (n / 10)) ≤ k → length (digits_of n) ≤ suc k
length_tenth n k true e h = omega (arith, length_one n (ltb-true n 10 e))
length_tenth n k false e h = omega (arith, length_more n (ltb-false n 10 e))

pub length_below_power : (k n : ℕ) → n < 10 * 10 ^ k → length (digits_of n) ≤ suc k
length_below_power zero n h = omega (arith, length_one n (omega arith))
length_below_power (suc k) n h = length_tenth n (suc k) (ltb n 10) refl (length_below_power k (n / 10) (omega arith))

pub length_digits_32 : (n : ℕ) → n < 2 ^ 32 → length (digits_of n) ≤ 10
length_digits_32 n h = length_below_power 9 n (omega arith)

pub length_tenth_32 : (n : ℕ) → n < 2 ^ 32 → length (digits_of (n / 10)) ≤ 9
length_tenth_32 n h = length_below_power 8 (n / 10) (omega arith)

-- with a sign
pub signed_negative : (z : ℤ) → lt_z z (pos 0) ≡ true → signed_of z ≡ 45 ∷ digits_of (nat_abs z)
unfolding signed_of
signed_negative (pos n) h = absurd (omega (arith, ltb-true n 0 h))
signed_negative (negsuc n) h = refl

pub signed_positive : (z : ℤ) → lt_z z (pos 0) ≡ false → signed_of z ≡ digits_of (nat_abs z)
unfolding signed_of
signed_positive (pos n) h = refl
signed_positive (negsuc n) h = absurd (let z : ◌≡◌ {A = ℕ} 0 1 = cc in omega arith)

pub length_signed_32 : (z : ℤ) → SFits w32 z → length (signed_of z) ≤ 11
unfolding signed_of
length_signed_32 (pos n) f = omega (arith, length_below_power 9 n (omega (arith, f.sfits)))
length_signed_32 (negsuc n) f = omega (arith, length_below_power 9 (suc n) (omega (arith, f.sfits)))

-- what `digits` goes by: one digit, or one more than those of the tenth, which are nine at most
pub ruleset by_tenths = (digits_one, digits_more, length_tenth_32, length-append)
