-- How long a record is, case by case; what a whole one is, and that Read refuses a broken one.
use Rattle.std.specs.Prelude.{◌≡◌, refl, Bool, ◌||◌, cond, ◌⊎◌, List, [], ◌∷◌, ℕ, zero, suc, ◌≤◌, ◌<◌, ltb, length, take}
use Rattle.std.proofs.Common.{sym, ap, ◌∙◌, arith, length-take, length-take-le, take_all}
use Rattle.std.proofs.Math.Bool.{true, false}
use Rattle.std.proofs.Math.Logic.{inl, inr}
use borrow.Author.Tests.{ltb-false, lt-ltb, le-ltb}
use Rattle.tiles.proofs.laws.Below.{or_both}
use Rattle.hand_record.specs.Record.{HandRead}
use Rattle.hand_record.specs.Record.{head_of, count_in, length_of, wrong_length, refused_with, refusal_in, read_of}
use Rattle.hand_record.proofs.laws.Read.{whole, RightLength, length_right, read_not}
use Rattle.hand_record.specs.Lengths.{is_broken, record_length}

module _ (s : List ℕ) where
  -- its length, where bytes are missing, m is over 4, and where it is whole
  pub record_short : length s < 4 → record_length s ≡ 0
  unfolding record_length
  record_short h = simp (lt-ltb (length s) 4 h)

  pub record_over : 4 ≤ length s → 4 < count_in s → record_length s ≡ 0
  unfolding record_length
  record_over h l = simp (le-ltb (length s) 4 h, lt-ltb 4 (count_in s) l)

  pub record_cut : 4 ≤ length s → count_in s ≤ 4 → length s < length_of (count_in s) → record_length s ≡ 0
  unfolding record_length
  record_cut h l g = simp (le-ltb (length s) 4 h, le-ltb 4 (count_in s) l, lt-ltb (length s) (length_of (count_in s)) g)

  pub record_whole : 4 ≤ length s → count_in s ≤ 4 → length_of (count_in s) ≤ length s → record_length s ≡ length_of (count_in s)
  unfolding record_length
  record_whole h l g = simp (le-ltb (length s) 4 h, le-ltb 4 (count_in s) l, le-ltb (length s) (length_of (count_in s)) g)

  -- a record that is not broken
  pub unbroken : is_broken s ≡ false → (count_in s ≤ 4) × (4 ≤ length_of (count_in s)) × (length_of (count_in s) ≤ 13) × (length_of (count_in s) ≤ length s)
  unbroken e =
      let m = count_in s in
      let p = or_both (ltb (length s) 4 || ltb 4 m) (ltb (length s) (length_of m)) e in
      let h = ltb-false 4 m (or_both (ltb (length s) 4) (ltb 4 m) p.0).1 in
      let w = whole m h in
      (h, w.3, w.2, ltb-false (length s) (length_of m) p.1)

  -- broken, with a length of 0; or not, with one of m's
  pub broken_or_whole : ((is_broken s ≡ true) × (record_length s ≡ 0)) ⊎ ((is_broken s ≡ false) × (record_length s ≡ length_of (count_in s)))
  unfolding record_length
  broken_or_whole = go (is_broken s)
    where
      go : (b : Bool) → ((b ≡ true) × (cond b 0 (length_of (count_in s)) ≡ 0)) ⊎ ((b ≡ false) × (cond b 0 (length_of (count_in s)) ≡ length_of (count_in s)))
      go true = inl (refl, refl)
      go false = inr (refl, refl)

  pub record_inside : (record_length s ≤ 13) × (record_length s ≤ length s)
  record_inside = go broken_or_whole
    where
      go : ((is_broken s ≡ true) × (record_length s ≡ 0)) ⊎ ((is_broken s ≡ false) × (record_length s ≡ length_of (count_in s)))
          → (record_length s ≤ 13) × (record_length s ≤ length s)
      go (inl b) = (omega (arith, b.1), omega (arith, b.1))
      go (inr u) = (omega (arith, u.1, unbroken u.0), omega (arith, u.1, unbroken u.0))

  pub length_zero : record_length s ≡ 0 → is_broken s ≡ true
  length_zero z = go broken_or_whole
    where
      go : ((is_broken s ≡ true) × (record_length s ≡ 0)) ⊎ ((is_broken s ≡ false) × (record_length s ≡ length_of (count_in s))) → is_broken s ≡ true
      go (inl b) = b.0
      go (inr u) = absurd (omega (arith, z, u.1, unbroken u.0))

  pub length_some : (record_length s ≡ 0 → ⊥) → (is_broken s ≡ false) × (record_length s ≡ length_of (count_in s))
  length_some l = go broken_or_whole
    where
      go : ((is_broken s ≡ true) × (record_length s ≡ 0)) ⊎ ((is_broken s ≡ false) × (record_length s ≡ length_of (count_in s)))
          → (is_broken s ≡ false) × (record_length s ≡ length_of (count_in s))
      go (inl b) = absurd (l b.1)
      go (inr u) = u

  pub whole_length : 0 < record_length s → (record_length s ≡ length_of (count_in s)) × (record_length s ≤ length s)
  whole_length h = ((length_some (λ z. omega (arith, h, z))).1, record_inside.1)

-- m stands in the first four bytes
pub count_take : (s : List ℕ) (n : ℕ) → 4 ≤ n → 4 ≤ length s → count_in (take n s) ≡ count_in s
unfolding head_of
count_take [] n h l = absurd (omega arith)
count_take (a ∷ []) n h l = absurd (omega arith)
count_take (a ∷ b ∷ []) n h l = absurd (omega arith)
count_take (a ∷ b ∷ c ∷ []) n h l = absurd (omega arith)
count_take (a ∷ b ∷ c ∷ d ∷ s) zero h l = absurd (omega arith)
count_take (a ∷ b ∷ c ∷ d ∷ s) (suc zero) h l = absurd (omega arith)
count_take (a ∷ b ∷ c ∷ d ∷ s) (suc (suc zero)) h l = absurd (omega arith)
count_take (a ∷ b ∷ c ∷ d ∷ s) (suc (suc (suc zero))) h l = absurd (omega arith)
count_take (a ∷ b ∷ c ∷ d ∷ s) (suc (suc (suc (suc n)))) h l = refl

-- an unbroken record has the form that Read wants
pub record_length_lem : (s : List ℕ) → is_broken s ≡ false → wrong_length (length (take (length_of (count_in s)) s)) (count_in (take (length_of (count_in s)) s)) ≡ false
record_length_lem s e =
    let u = unbroken s e in
    let l = length-take-le (length_of (count_in s)) s u.3 in
    rw (count_take s (length_of (count_in s)) u.1 (omega arith), l)
    (length_right (length_of (count_in s)) (count_in s) (record { four = u.1; few = u.0; right = refl }))

-- ---- of records end to end the first

-- S-6: "what doesn't fit is Read's 1": a broken one is, however many of its bytes Read is given
pub broken_read : (s : List ℕ) (n : ℕ) → record_length s ≡ 0 → read_of (take n s) ≡ refused_with 1
broken_read s n z = read_not (take n s) fails
  where
    fails : RightLength (length (take n s)) (count_in (take n s)) → ⊥
    fails f =
        let l = length-take n s in
        let c : count_in (take n s) ≡ count_in s = count_take s n (omega (arith, l, f.four)) (omega (arith, l, f.four)) in
        let m : count_in s ≤ 4 = omega (arith, c, f.few) in
        let e : length (take n s) ≡ length_of (count_in s) = f.right ∙ ap length_of c in
        omega (arith, z, whole (count_in s) m, record_whole s (omega (arith, l, f.four)) m (omega (arith, l, e)))

-- as many as its m says
pub broken_unreadable : (s : List ℕ) → record_length s ≡ 0 → refusal_in (read_of (take (length_of (count_in s)) s)).answer ≡ 1
broken_unreadable s z = ap (λ (r : HandRead). refusal_in r.answer) (broken_read s (length_of (count_in s)) z)

-- and of the last one, "all that is left"
pub broken_left : (s : List ℕ) → record_length s ≡ 0 → refusal_in (read_of s).answer ≡ 1
broken_left s z =
    ap (λ (l : List ℕ). refusal_in (read_of l).answer) (sym (take_all (length s) s (omega arith)))
    ∙ ap (λ (r : HandRead). refusal_in r.answer) (broken_read s (length s) z)
