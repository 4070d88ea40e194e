-- There is exactly one score: what the search finds is one, and there is no other.
use Rattle.std.specs.Prelude.{ℕ, ◌<◌, ◌≤◌, ◌≡◌, Bool, true, false, ◌||◌, cond, List, ◌⊎◌, ltb}
use Rattle.std.proofs.Common.{arith, sym, ap, ◌∙◌, subst, inl, inr, ⊎_elim, ltb-true, ltb-false}
use Rattle.std.proofs.Math.Path.{refl}
use Rattle.hand.specs.declared.Fields.{Fields}
use Rattle.hand_record.specs.Record.{Answer, Sound, Refused}
use Rattle.hand_record.specs.Record.{refusal_in, hand_of, read_of}
use Rattle.hand_record.proofs.laws.Bounds.{refused_number}
use Rattle.score.specs.declared.Scored.{Scored}
use Rattle.score.specs.Named.{refused_with}
use Rattle.score.specs.IsScore.{IsScore, eight, unreadable, read}
use Rattle.score.specs.search.HandScore.{found_by, found_of}
use Rattle.score.proofs.laws.Paid.{read_paid}
use Rattle.score.proofs.laws.Named.{hand_score, only_one}

module _ (s : List ℕ) (dealer wind : ℕ) where
  -- ---- what the search finds is a score

  by_answer : dealer ≤ 3 → wind ≤ 1 → (a : Answer) → (read_of s).answer ≡ a → IsScore s dealer wind (found_by a (hand_of (read_of s)) dealer wind)
  unfolding found_by
  by_answer d w (Refused n) e = unreadable d w n e
  by_answer d w (Sound f) e = read d w f e (hand_score (hand_of (read_of s)) dealer wind (read_paid s dealer d (ap refusal_in e)))

  by_seats : (a b : Bool) → ltb 3 dealer ≡ a → ltb 1 wind ≡ b
      → IsScore s dealer wind (cond (a || b) (refused_with 8) (found_by (read_of s).answer (hand_of (read_of s)) dealer wind))
  by_seats true b p q = eight (inl (ltb-true 3 dealer p))
  by_seats false true p q = eight (inr (ltb-true 1 wind q))
  by_seats false false p q = by_answer (ltb-false 3 dealer p) (ltb-false 1 wind q) (read_of s).answer refl

  pub found_is : IsScore s dealer wind (found_of s dealer wind)
  unfolding found_of
  found_is = by_seats (ltb 3 dealer) (ltb 1 wind) refl refl

  -- ---- and there is no other

  over : {A : Type 0} → (3 < dealer) ⊎ (1 < wind) → dealer ≤ 3 → wind ≤ 1 → A
  over o d w = absurd (⊎_elim (λ x. omega arith) (λ x. omega arith) o)

  refused_same : (n k : ℕ) → (read_of s).answer ≡ Refused n → (read_of s).answer ≡ Refused k → n ≡ k
  refused_same n k p q = ap refusal_in (sym p ∙ q)

  not_both : {A : Type 0} (n : ℕ) (f : Fields) → (read_of s).answer ≡ Refused n → (read_of s).answer ≡ Sound f → A
  not_both n f p q =
      let z : n ≡ 0 = ap refusal_in (sym p ∙ q) in
      absurd (omega (arith, refused_number s n p))

  pub only : {x y : Scored} → IsScore s dealer wind x → IsScore s dealer wind y → x ≡ y
  only (eight o) (eight p) = refl
  only (eight o) (unreadable d w n e) = over o d w
  only (eight o) (read d w f e m) = over o d w
  only (unreadable d w n e) (eight o) = over o d w
  only (unreadable d w n e) (unreadable c v k q) = ap refused_with (refused_same n k e q)
  only (unreadable d w n e) (read c v f q m) = not_both n f e q
  only (read d w f e m) (eight o) = over o d w
  only (read d w f e m) (unreadable c v n q) = not_both n f q e
  only (read d w f e m) (read c v g q k) = only_one (hand_of (read_of s)) dealer wind m k

  abbrev pub exactly_one : (a : Scored) × IsScore s dealer wind a × ((b : Scored) → IsScore s dealer wind b → b ≡ a)
  exactly_one = (found_of s dealer wind, found_is, λ b i. only i found_is)

  pub found_score : {x : Scored} → x ≡ found_of s dealer wind → IsScore s dealer wind x
  found_score {x} e = subst (λ (y : Scored). IsScore s dealer wind y) (sym e) found_is
