-- There is exactly one answer: what the searches find is one, and there is no other.
use Rattle.std.specs.Prelude.{Bool, ◌||◌, cond, List, ◌⊎◌, ◌↔◌, ◌≡◌, ℕ, ◌<◌, ◌≤◌, length}
use Rattle.std.proofs.Math.Bool.{true, false}
use Rattle.std.proofs.Common.{inl, inr, ⊎_elim, sym, ap, ◌∙◌, subst, arith}
use Rattle.std.proofs.Math.Path.{refl}
use borrow.Author.Tests.{ltb-true, ltb-false, eqb-true, eqb-false}
use Rattle.std.proofs.Math.Dec.{ltb, eqb}
use Rattle.hand.specs.declared.Fields.{Fields}
use Rattle.hand.specs.declared.Hand.{Hand}
use Rattle.hand_record.specs.Record.{Answer, Sound, Refused}
use Rattle.hand_record.specs.Record.{refusal_in, hand_of, read_of}
use Rattle.hand_record.proofs.laws.Bounds.{read_bounds, refused_number}
use Rattle.reading.specs.declared.Reading.{Reading}
use Rattle.score.specs.Readings.{readings_of}
use Rattle.score.proofs.laws.Paid.{read_paid}
use Rattle.score_readings.specs.declared.NthReading.{NthReading}
use Rattle.score_readings.specs.Shown.{nth_in, shown_as}
use Rattle.score_readings.specs.IsNth.{refused_with, IsNth, eight, unreadable, no_such, shown}
use Rattle.score_readings.specs.search.Found.{is_kept, hand_nth_of, found_by, found_of}
use Rattle.score_readings.proofs.laws.Same.{kept_iff}
use Rattle.score_readings.proofs.laws.Found.{nth_reads}

bool_same : {P : Type 0} (x y : Bool) → (x ≡ true) ↔ P → (y ≡ true) ↔ P → x ≡ y
bool_same true true i j = refl
bool_same true false i j = sym (j.1 (i.0 refl))
bool_same false true i j = i.1 (j.0 refl)
bool_same false false i j = refl

module _ (s : List ℕ) (dealer wind n : ℕ) where
  abbrev h : Hand
  h = hand_of (read_of s)

  abbrev r : Reading
  r = nth_in (readings_of h) n

  -- ---- what the searches find is an answer

  pub shown_at : dealer ≤ 3 → wind ≤ 1 → (f : Fields) → (read_of s).answer ≡ Sound f → 1 ≤ n → n ≤ length (readings_of h)
      → IsNth s dealer wind n (shown_as h dealer wind r (is_kept h dealer wind r))
  shown_at d w f e a l =
      let z = ap refusal_in e in
      shown d w f e (omega arith) l (is_kept h dealer wind r)
      (kept_iff h (read_bounds s z).few dealer wind (read_paid s dealer d z) r (nth_reads h dealer wind n a l))

  of_hand : dealer ≤ 3 → wind ≤ 1 → (f : Fields) → (read_of s).answer ≡ Sound f → IsNth s dealer wind n (hand_nth_of h dealer wind n)
  unfolding hand_nth_of
  of_hand d w f e = go (eqb n 0) (ltb (length (readings_of h)) n) refl refl
    where
      go : (a b : Bool) → eqb n 0 ≡ a → ltb (length (readings_of h)) n ≡ b
          → IsNth s dealer wind n (cond (a || b) (refused_with 8) (shown_as h dealer wind r (is_kept h dealer wind r)))
      go true b p q = no_such d w f e (inl (eqb-true n 0 p))
      go false true p q = no_such d w f e (inr (ltb-true (length (readings_of h)) n q))
      go false false p q = shown_at d w f e (omega (arith, eqb-false n 0 p)) (ltb-false (length (readings_of h)) n q)

  by_answer : dealer ≤ 3 → wind ≤ 1 → (a : Answer) → (read_of s).answer ≡ a → IsNth s dealer wind n (found_by a h dealer wind n)
  unfolding found_by
  by_answer d w (Refused k) e = unreadable d w k e
  by_answer d w (Sound f) e = of_hand d w f e

  by_seats : (a b : Bool) → ltb 3 dealer ≡ a → ltb 1 wind ≡ b
      → IsNth s dealer wind n (cond (a || b) (refused_with 8) (found_by (read_of s).answer h dealer wind n))
  by_seats true b p q = eight (inl (ltb-true 3 dealer p))
  by_seats false true p q = eight (inr (ltb-true 1 wind q))
  by_seats false false p q = by_answer (ltb-false 3 dealer p) (ltb-false 1 wind q) (read_of s).answer refl

  pub found_is : IsNth s dealer wind n (found_of s dealer wind n)
  unfolding found_of
  found_is = by_seats (ltb 3 dealer) (ltb 1 wind) refl refl

  -- ---- and there is no other

  over : {A : Type 0} → (3 < dealer) ⊎ (1 < wind) → dealer ≤ 3 → wind ≤ 1 → A
  over o d w = absurd (⊎_elim (λ x. omega arith) (λ x. omega arith) o)

  refused_same : (k j : ℕ) → (read_of s).answer ≡ Refused k → (read_of s).answer ≡ Refused j → k ≡ j
  refused_same k j p q = ap refusal_in (sym p ∙ q)

  not_both : {A : Type 0} (k : ℕ) (f : Fields) → (read_of s).answer ≡ Refused k → (read_of s).answer ≡ Sound f → A
  not_both k f p q =
      let z : k ≡ 0 = ap refusal_in (sym p ∙ q) in
      absurd (omega (arith, refused_number s k p))

  outside : {A : Type 0} → (n ≡ 0) ⊎ (length (readings_of h) < n) → 1 ≤ n → n ≤ length (readings_of h) → A
  outside o a l = absurd (⊎_elim (λ x. omega arith) (λ x. omega arith) o)

  pub only : {x y : NthReading} → IsNth s dealer wind n x → IsNth s dealer wind n y → x ≡ y
  only (eight o) (eight p) = refl
  only (eight o) (unreadable d w k e) = over o d w
  only (eight o) (no_such d w f e z) = over o d w
  only (eight o) (shown d w f e a l b i) = over o d w
  only (unreadable d w k e) (eight o) = over o d w
  only (unreadable d w k e) (unreadable d' w' j q) = ap refused_with (refused_same k j e q)
  only (unreadable d w k e) (no_such d' w' f q z) = not_both k f e q
  only (unreadable d w k e) (shown d' w' f q a l b i) = not_both k f e q
  only (no_such d w f e z) (eight o) = over o d w
  only (no_such d w f e z) (unreadable d' w' k q) = not_both k f q e
  only (no_such d w f e z) (no_such d' w' g q y) = refl
  only (no_such d w f e z) (shown d' w' g q a l b i) = outside z a l
  only (shown d w f e a l b i) (eight o) = over o d w
  only (shown d w f e a l b i) (unreadable d' w' k q) = not_both k f q e
  only (shown d w f e a l b i) (no_such d' w' g q z) = outside z a l
  only (shown d w f e a l b i) (shown d' w' g q a' l' c j) = ap (shown_as h dealer wind r) (bool_same b c i j)

  abbrev pub exactly_one : (a : NthReading) × IsNth s dealer wind n a × ((b : NthReading) → IsNth s dealer wind n b → b ≡ a)
  exactly_one = (found_of s dealer wind n, found_is, λ b i. only i found_is)

  pub found_nth : {x : NthReading} → x ≡ found_of s dealer wind n → IsNth s dealer wind n x
  found_nth {x} e = subst (λ (y : NthReading). IsNth s dealer wind n y) (sym e) found_is
