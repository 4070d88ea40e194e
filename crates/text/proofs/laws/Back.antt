-- Digits read back: by strong induction, a number after its tenth.
use Rattle.std.specs.Prelude.{◌≡◌, refl, Bool, true, false, List, [], ◌∷◌, ◌++◌, ℕ, zero, suc, ◌+◌, ◌*◌, ◌-◌, ◌/◌, ◌%◌, ◌≤◌, ◌<◌, ltb, length, get_or, ℤ, pos, negsuc}
use Rattle.std.proofs.Common.{arith, ltb-true, ltb-false, ne_eqb}
use Rattle.std.proofs.Math.ListN.{get_or-append}
use Rattle.std.proofs.Math.Seq.{get_or-append_seam}
use Rattle.text.specs.Text.{digits_of, signed_of}
use Rattle.text.specs.Back.{value_from, number_in, signed_in}
use Rattle.text.proofs.laws.Digits.{digits_one, digits_more, length_one, length_more}

-- what holds of each digit, and of a number whenever of its tenth, holds of every number
module _ (P : ℕ → Type 0) (one : (n : ℕ) → n < 10 → P n) (more : (n : ℕ) → 10 ≤ n → P (n / 10) → P n) where
  pub by_tenths : (k n : ℕ) → n < k → P n
  by_tenths zero n h = absurd (omega arith)
  by_tenths (suc k) n h = go (λ m. by_tenths k (n / 10) (omega arith)) (ltb n 10) refl
    where
      go : (10 ≤ n → P (n / 10)) → (t : Bool) → ltb n 10 ≡ t → P n
      go r true e = one n (ltb-true n 10 e)
      go r false e = more n (ltb-false n 10 e) (r (ltb-false n 10 e))

value_append : (a : ℕ) (bs cs : List ℕ) → value_from a (bs ++ cs) ≡ value_from (value_from a bs) cs
value_append a [] cs = refl
value_append a (b ∷ bs) cs = value_append (a * 10 + (b - 48)) bs cs

pub digits_back : (n : ℕ) → number_in (digits_of n) ≡ n
digits_back n =
    by_tenths (λ m. number_in (digits_of m) ≡ m) (λ m h. rw (digits_one m h) (omega arith))
    (λ m h e. rw (digits_more m h, value_append, e) (omega arith)) (suc n) n (omega arith)

-- each byte is 48 to 57
abbrev IsDigit : ℕ → Type 0
IsDigit b = (48 ≤ b) × (b ≤ 57)

digit_last : (l : List ℕ) (d k : ℕ) → IsDigit d → ((j : ℕ) → j < length l → IsDigit (get_or l j 0)) → k < length l + 1 → IsDigit (get_or (l ++ (d ∷ [])) k 0)
digit_last l d k i h g = go (ltb k (length l)) refl
  where
    go : (t : Bool) → ltb k (length l) ≡ t → IsDigit (get_or (l ++ (d ∷ [])) k 0)
    go true e = rw (get_or-append l (d ∷ []) 0 k (ltb-true k (length l) e)) (h k (ltb-true k (length l) e))
    go false e =
        let q : k ≡ length l = omega (arith, ltb-false k (length l) e) in
        rw (q, get_or-append_seam l d [] 0) i

pub digits_are_digits : (n k : ℕ) → k < length (digits_of n) → IsDigit (get_or (digits_of n) k 0)
digits_are_digits n =
    by_tenths (λ m. (k : ℕ) → k < length (digits_of m) → IsDigit (get_or (digits_of m) k 0))
    (λ m h k g. let q : k ≡ 0 = omega (arith, length_one m h) in rw (q, digits_one m h) (omega arith, omega arith))
    (λ m h e k g. rw (digits_more m h) (digit_last (digits_of (m / 10)) (48 + m % 10) k (omega arith, omega arith) e (omega (arith, length_more m h))))
    (suc n) n (omega arith)

-- there is a digit
pub digits_some : (n : ℕ) → 0 < length (digits_of n)
digits_some n =
    by_tenths (λ m. 0 < length (digits_of m)) (λ m h. omega (arith, length_one m h)) (λ m h e. omega (arith, length_more m h)) (suc n) n (omega arith)

pub no_leading_zero : (n : ℕ) → 0 < n → 48 < get_or (digits_of n) 0 0
no_leading_zero n =
    by_tenths (λ m. 0 < m → 48 < get_or (digits_of m) 0 0) (λ m h g. rw (digits_one m h) (omega arith))
    (λ m h e g. rw (digits_more m h, get_or-append (digits_of (m / 10)) ((48 + m % 10) ∷ []) 0 0 (digits_some (m / 10))) (e (omega arith))) (suc n) n
    (omega arith)

-- with a sign: a digit is no minus
plain_back : (l : List ℕ) (n : ℕ) → 0 < length l → 48 ≤ get_or l 0 0 → number_in l ≡ n → signed_in l ≡ pos n
unfolding signed_in
plain_back [] n h g e = absurd (omega arith)
plain_back (b ∷ l) n h g e = rw (ne_eqb b 45 (λ q. omega arith), e)

pub signed_back : (z : ℤ) → signed_in (signed_of z) ≡ z
unfolding signed_of signed_in
signed_back (pos n) = plain_back (digits_of n) n (digits_some n) (digits_are_digits n 0 (digits_some n)).0 (digits_back n)
signed_back (negsuc n) = rw (digits_back (suc n))
