-- Where the first of the records ends, and what the records are by it.
use Rattle.std.specs.Prelude.{◌≡◌, Bool, true, false, cond, List, [], ◌∷◌, eqb, length, take, drop}
use Rattle.std.proofs.Math.Path.{refl, sym, ap}
use Rattle.std.proofs.Common.{◌∙◌, arith, take_all}
use Prim.Native.Nat.{ℕ, zero, suc, ◌-◌, ◌≤◌, ◌<◌}
use borrow.Author.Tests.{lt-ltb, eq-eqb, ne_eqb}
use Rattle.hand.specs.declared.Hand.{Hand}
use Rattle.hand_record.specs.Record.{length_of, count_in, refusal_in, read_of}
use Rattle.hand_record.specs.Lengths.{record_length}
use Rattle.hand_record.proofs.laws.Lengths.{record_short, record_inside, whole_length, broken_unreadable, broken_left}
use Rattle.hand_rons.specs.Records.{hand_for, records_of, first_unreadable, cut_of, IsFirst}
use Rattle.hand_rons.proofs.laws.OneTile.{Read}

-- the first record, and the bytes of the others
abbrev first_of : ℕ → List ℕ → List ℕ
first_of n s = take (cut_of n s) s

abbrev others_of : ℕ → List ℕ → List ℕ
others_of n s = drop (cut_of n s) s

-- where it ends: the last one, another, and inside the bytes
module _ (n : ℕ) (s : List ℕ) where
  pub cut_last : n ≡ 1 → cut_of n s ≡ length s
  unfolding cut_of
  cut_last e = rw (eq-eqb n 1 e)

  pub cut_more : (n ≡ 1 → ⊥) → cut_of n s ≡ record_length s
  unfolding cut_of
  cut_more k = rw (ne_eqb n 1 k)

cut_inside : (n : ℕ) (s : List ℕ) → cut_of n s ≤ length s
unfolding cut_of
cut_inside n s = go (eqb n 1)
  where
    go : (b : Bool) → cond b (length s) (record_length s) ≤ length s
    go true = omega arith
    go false = (record_inside s).1

-- ---- the first record, and the others

-- records of which the first is whole
records_step : (n : ℕ) (s : List ℕ) → 0 < n → 0 < cut_of n s → records_of n s ≡ first_of n s ∷ records_of (n - 1) (others_of n s)
unfolding records_of
records_step zero s p h = absurd (omega arith)
records_step (suc zero) s p h = ap (λ (l : List ℕ). l ∷ []) (sym (take_all (cut_of 1 s) s (omega (arith, cut_last 1 s refl))))
records_step (suc (suc n)) s p h =
    let more : cut_of (suc (suc n)) s ≡ record_length s = cut_more (suc (suc n)) s (λ z. omega arith) in
    let e : length_of (count_in s) ≡ cut_of (suc (suc n)) s = sym (whole_length s (omega (arith, more))).0 ∙ sym more in
    let o : suc n ≡ suc (suc n) - 1 = omega arith in
    ap (λ (k : ℕ). take k s ∷ records_of (suc n) (drop k s)) e ∙ ap (λ (k : ℕ). first_of (suc (suc n)) s ∷ records_of k (others_of (suc (suc n)) s)) o

-- "what doesn't fit is Read's 1 of that record"
cut_unreadable : (n : ℕ) (s : List ℕ) → 0 < n → cut_of n s ≡ 0 → first_unreadable (records_of n s) ≡ 1
unfolding records_of first_unreadable
cut_unreadable zero s p z = absurd (omega arith)
cut_unreadable (suc zero) s p z = rw (broken_left s (record_short s (omega (arith, cut_last 1 s refl))))
cut_unreadable (suc (suc n)) s p z = rw (broken_unreadable s (omega (arith, cut_more (suc (suc n)) s (λ z. omega arith))))

-- no bytes are Read's 1
none_unreadable : (s : List ℕ) (k : ℕ) → k ≡ 0 → refusal_in (read_of (take k s)).answer ≡ 1
none_unreadable s k z = ap (λ (i : ℕ). refusal_in (read_of (take i s)).answer) z ∙ broken_left [] (record_short [] (omega arith))

-- so many records, the first of them k bytes long
module _ (n : ℕ) (s : List ℕ) (p : 0 < n) (k : ℕ) (e : k ≡ cut_of n s) where
  pub first_inside : k ≤ length s
  first_inside = omega (arith, e, cut_inside n s)

  -- it does not read
  unreadable : (m : ℕ) → refusal_in (read_of (take k s)).answer ≡ m → 0 < m → first_unreadable (records_of n s) ≡ m
  unfolding first_unreadable
  unreadable m q l = go k refl
    where
      go : (i : ℕ) → k ≡ i → first_unreadable (records_of n s) ≡ m
      go zero z = cut_unreadable n s p (sym e ∙ z) ∙ sym (none_unreadable s k z) ∙ q
      go (suc i) z =
          let f : refusal_in (read_of (first_of n s)).answer ≡ m = ap (λ (j : ℕ). refusal_in (read_of (take j s)).answer) (sym e) ∙ q in
          rw (records_step n s p (omega (arith, e, z)), f, lt-ltb 0 m l)

  pub first_unreadable_lem : (m : ℕ) (h : Hand) → (refusal_in (read_of (take k s)).answer ≡ m) × (0 < m) → IsFirst n s (record { refusal = m; end = 0; hand = h })
  first_unreadable_lem m h q = record {
    refused = λ y. unreadable m q.0 y;
    inside = omega arith;
    reads = λ z. absurd (omega arith);
    hand = λ z. absurd (omega arith);
    others = λ z. absurd (omega arith);
  }

  -- it is broken, which is "Read's 1"
  pub first_broken : (h : Hand) → k ≡ 0 → IsFirst n s (record { refusal = 1; end = 0; hand = h })
  first_broken h z = first_unreadable_lem 1 h (none_unreadable s k z, omega arith)

  -- it reads
  pub first_read : (h : Hand) → Read (take k s) → h ≡ hand_for (take k s) → IsFirst n s (record { refusal = 0; end = k; hand = h })
  first_read h q x = record { refused = λ l. absurd (omega arith); inside = first_inside; reads = λ z. q; hand = λ z. x; others = λ z. go k refl }
    where
      go : (i : ℕ) → k ≡ i → records_of n s ≡ take k s ∷ records_of (n - 1) (drop k s)
      go zero z = let o = none_unreadable s k z in absurd (omega (arith, o, q))
      go (suc i) z = records_step n s p (omega (arith, e, z)) ∙ ap (λ (j : ℕ). take j s ∷ records_of (n - 1) (drop j s)) (sym e)
