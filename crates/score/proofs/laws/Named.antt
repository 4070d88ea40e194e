-- The search finds what document 01 names for a hand, and it names one answer.
use Rattle.std.specs.Prelude.{ℕ, ◌≤◌, ◌≡◌, Bool, ◌⊎◌, ◌↔◌, ltb}
use Rattle.std.proofs.Math.Path.{refl, ap, subst}
use Rattle.std.proofs.Common.{sym, ◌∙◌, inl, inr, ⊎_elim, arith, ltb-true, ltb-false}
use Rattle.std.proofs.Math.Bool.{true, false, cond}
use Rattle.std.proofs.lemmas.Bool.{false≢true}
use Rattle.hand.specs.declared.Hand.{Hand}
use Rattle.hand.specs.Hand.{is_ron}
use Rattle.reading.specs.declared.Reading.{Reading}
use Rattle.reading.specs.Order.{Lex}
use Rattle.points_value.specs.declared.Value.{Value}
use Rattle.score_best.specs.declared.Best.{Best}
use Rattle.score_best.specs.Best.{figures}
use Rattle.score_best.proofs.laws.First.{Kept, never}
use Rattle.score_best.proofs.laws.Over.{over_same}
use Rattle.score.specs.declared.Scored.{Scored}
use Rattle.score.specs.Named.{worth, seats_of, IsReadingOf, refused_with, accepted_as, ReadsWithYaku, IsReported, gain_in, tried_in, scored_as, Named}
use Rattle.score.specs.Named.{reported, six, seven}
use Rattle.score.specs.search.HandScore.{hand_score_by, kept_of, hand_score_of}
use Rattle.score.proofs.laws.Best.{over_readings, over_kept, tried_kept}
use Rattle.score.proofs.laws.Paid.{Paid, may_end}

-- what comes first in the figures is the gain
gain_le : (v w : Value) → Lex (figures v) (figures w) ⊎ (figures v ≡ figures w) → v.gain.0 ≤ w.gain.0
gain_le v w h = ⊎_elim (λ l. ⊎_elim (λ k. omega arith) (λ k. omega arith) l) (λ e. let q : v.gain.0 ≡ w.gain.0 = cc in omega arith) h

module _ (h : Hand) (dealer wind : ℕ) where
  -- ---- by what a search kept

  module _ (b : Best) (k : Kept (worth h dealer wind) (IsReadingOf h) b) where
    abbrev answer_by : Scored
    answer_by = cond (ltb 0 b.tried) (cond b.valued (scored_as h dealer wind b.reading) (refused_with 7)) (refused_with 6)

    named_by : Named h dealer wind answer_by
    named_by = go (ltb 0 b.tried) b.valued refl refl
      where
        go : (s v : Bool) → ltb 0 b.tried ≡ s → b.valued ≡ v
            → Named h dealer wind (cond s (cond v (scored_as h dealer wind b.reading) (refused_with 7)) (refused_with 6))
        go false v es ev = six (k.untried (omega (arith, ltb-false 0 b.tried es)))
        go true false es ev =
            let y = k.tried (ltb-true 0 b.tried es) in
            seven y.0 y.1 (λ r w. absurd (false≢true (sym (k.worthless ev r w.0) ∙ w.1)))
        go true true es ev = let y = k.best ev in reported b.reading (record { yaku = (y.0, y.1); first = λ q w. y.3 q w.0 w.1 })

    hand_score_by_lem : b.tried ≡ tried_in h dealer wind → hand_score_by b (seats_of h dealer) (is_ron h.fields) ≡ answer_by
    unfolding hand_score_by
    hand_score_by_lem n = go b.valued refl
      where
        go : (v : Bool) → b.valued ≡ v
            → cond (ltb 0 b.tried) (cond v (accepted_as b.value (seats_of h dealer) (is_ron h.fields) b.tried) (refused_with 7)) (refused_with 6)
            ≡ cond (ltb 0 b.tried) (cond v (scored_as h dealer wind b.reading) (refused_with 7)) (refused_with 6)
        go false ev = refl
        go true ev =
            ap (λ (x : Scored). cond (ltb 0 b.tried) x (refused_with 6))
            (ap (λ (x : Value). accepted_as x (seats_of h dealer) (is_ron h.fields) b.tried) (k.best ev).2
            ∙ ap (accepted_as (worth h dealer wind b.reading) (seats_of h dealer) (is_ron h.fields)) n)

  -- by one that goes through all readings there is an answer for every hand
  pub named : (a : Scored) × Named h dealer wind a
  named = let k = over_readings h dealer wind (λ _. false) (never (worth h dealer wind)) in (answer_by _ k, named_by _ k)

  -- and where a yakuman is paid it is what the code finds
  pub hand_score : Paid h dealer → Named h dealer wind (hand_score_of h dealer wind)
  unfolding hand_score_of
  hand_score paid =
      let k = over_kept h dealer wind (may_end h dealer wind paid) in
      subst (λ (y : Scored). Named h dealer wind y) (sym (hand_score_by_lem (kept_of h dealer wind) k (tried_kept h dealer wind)))
      (named_by (kept_of h dealer wind) k)

  pub only_one : {x y : Scored} → Named h dealer wind x → Named h dealer wind y → x ≡ y
  only_one (reported r a) (reported q b) = ap (scored_as h dealer wind) (over_same (worth h dealer wind) r q (a.first q b.yaku) (b.first r a.yaku))
  only_one (reported r a) (six n) = absurd (n r a.yaku.0)
  only_one (reported r a) (seven q i n) = absurd (n r a.yaku)
  only_one (six n) (reported r a) = absurd (n r a.yaku.0)
  only_one (six n) (six m) = refl
  only_one (six n) (seven q i m) = absurd (n q i)
  only_one (seven q i n) (reported r a) = absurd (n r a.yaku)
  only_one (seven q i n) (six m) = absurd (m q i)
  only_one (seven q i n) (seven p j m) = refl

  pub most : (r q : Reading) → IsReported h dealer wind r → ReadsWithYaku h dealer wind q → gain_in h dealer wind q ≤ gain_in h dealer wind r
  most r q a w =
      gain_le (worth h dealer wind q) (worth h dealer wind r) (⊎_elim (λ l. inl l) (λ k. inr k.0) (a.first q w))

  -- ---- of any answer that is named

  pub accepted : {x : Scored} → Named h dealer wind x → (x.refusal ≡ 0) ↔ ((r : Reading) × ReadsWithYaku h dealer wind r)
  accepted (reported r a) = (λ e. (r, a.yaku), λ y. refl)
  accepted (six n) = (λ e. absurd (omega arith), λ y. absurd (n y.0 y.1.0))
  accepted (seven q i n) = (λ e. absurd (omega arith), λ y. absurd (n y.0 y.1))

  pub best : {x : Scored} → Named h dealer wind x → x.refusal ≡ 0 → (r : Reading) × IsReported h dealer wind r × (x ≡ scored_as h dealer wind r)
  best (reported r a) e = (r, a, refl)
  best (six n) e = absurd (omega arith)
  best (seven q i n) e = absurd (omega arith)

  pub refused_6 : {x : Scored} → Named h dealer wind x → (x.refusal ≡ 6) ↔ ((q : Reading) → IsReadingOf h q → ⊥)
  refused_6 (reported r a) = (λ e. absurd (omega arith), λ n. absurd (n r a.yaku.0))
  refused_6 (six n) = (λ e. n, λ m. refl)
  refused_6 (seven q i n) = (λ e. absurd (omega arith), λ m. absurd (m q i))

  pub refused_7 : {x : Scored} → Named h dealer wind x
      → (x.refusal ≡ 7) ↔ (((q : Reading) × IsReadingOf h q) × ((r : Reading) → ReadsWithYaku h dealer wind r → ⊥))
  refused_7 (reported r a) = (λ e. absurd (omega arith), λ m. absurd (m.1 r a.yaku))
  refused_7 (six n) = (λ e. absurd (omega arith), λ m. absurd (n m.0.0 m.0.1))
  refused_7 (seven q i n) = (λ e. ((q, i), n), λ m. refl)

  pub for_tiles : {x : Scored} → Named h dealer wind x → ((x.refusal ≡ 6) ⊎ (x.refusal ≡ 7)) ↔ ((r : Reading) → ReadsWithYaku h dealer wind r → ⊥)
  for_tiles (reported r a) = (λ e. absurd (⊎_elim (λ z. omega arith) (λ z. omega arith) e), λ n. absurd (n r a.yaku))
  for_tiles (six n) = (λ e r w. n r w.0, λ m. inl refl)
  for_tiles (seven q i n) = (λ e. n, λ m. inr refl)

  pub tried : {x : Scored} → Named h dealer wind x → x.refusal ≡ 0 → x.tried ≡ tried_in h dealer wind
  tried (reported r a) e = refl
  tried (six n) e = absurd (omega arith)
  tried (seven q i n) e = absurd (omega arith)

  pub named_zero : {x : Scored} → Named h dealer wind x → (x.refusal ≡ 0 → ⊥) → x ≡ refused_with x.refusal
  named_zero (reported r a) e = absurd (e refl)
  named_zero (six n) e = refl
  named_zero (seven q i n) e = refl

  -- what the code finds is what is named
  pub hand_score_named : Paid h dealer → (x : Scored) → x ≡ hand_score_of h dealer wind → Named h dealer wind x × (x ≡ hand_score_of h dealer wind)
  hand_score_named paid x e = (subst (λ (y : Scored). Named h dealer wind y) (sym e) (hand_score paid), e)
