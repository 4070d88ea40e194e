-- What the search kept of a hand's readings, over all that are readings.
use Rattle.std.specs.Prelude.{ℕ, ◌≡◌, Bool}
use Rattle.std.proofs.Math.Path.{refl, ap}
use Rattle.std.proofs.Common.{◌∙◌}
use Rattle.std.proofs.Math.Bool.{true, false}
use mathlib.Core.List.{List, Memᴰ as Member}
use Rattle.std.proofs.Math.Dec.{ltb}
use Rattle.std.proofs.Math.ListN.{length}
use Rattle.hand.specs.declared.Hand.{Hand}
use Rattle.hand.specs.Hand.{is_ron, concealed_tally}
use Rattle.reading.specs.declared.Reading.{Reading}
use Rattle.reading.specs.search.Readings.{readings}
use Rattle.reading.specs.search.Folded.{folded}
use Rattle.reading.proofs.SearchClaims.{readings_sound, readings_complete, readings_ordered}
use Rattle.reading.proofs.laws.Only.{readings_all}
use Rattle.score_best.specs.declared.Best.{Best}
use Rattle.score_best.specs.Best.{with_yakuman, up_to}
use Rattle.score_best.specs.search.Best.{none_of, keep_better_by, best_of}
use Rattle.score_best.proofs.laws.First.{Kept, MayEnd, kept_all, kept_same}
use Rattle.score_best.proofs.laws.Tried.{tried_all}
use Rattle.score.specs.Readings.{all_kinds}
use Rattle.score.proofs.laws.Readings.{only_readings}
use Rattle.score.specs.Named.{worth, seats_of, IsReadingOf, refused_with, accepted_as, tried_in}
use Rattle.score.specs.search.HandScore.{hand_score_by, kept_of, hand_score_of}

module _ (h : Hand) (dealer wind : ℕ) where
  abbrev kept : Best
  kept = kept_of h dealer wind

  -- a search, up to where it may end, held each reading of the hand against the others
  pub over_readings : (ends : Reading → Bool) → MayEnd (worth h dealer wind) ends
      → Kept (worth h dealer wind) (IsReadingOf h)
      (folded (keep_better_by (worth h dealer wind) ends) (none_of 0) (readings (concealed_tally h) h.held.m h.fields.winning))
  over_readings ends may =
      let t = worth h dealer wind in
      let c = concealed_tally h in
      let m = h.held.m in
      let w = h.fields.winning in
      kept_same t (λ q. Member q (readings c m w)) (IsReadingOf h) _ (λ q n. readings_sound c m w (all_kinds h) q n)
      (λ q n. readings_complete c m w (all_kinds h) q n)
      (kept_all t ends may (readings c m w) (readings_ordered c m w (all_kinds h)))

  -- what the code keeps
  pub over_kept : MayEnd (worth h dealer wind) (with_yakuman (worth h dealer wind)) → Kept (worth h dealer wind) (IsReadingOf h) kept
  unfolding best_of kept_of
  over_kept may = over_readings (with_yakuman (worth h dealer wind)) may

  -- it tried as many as are named
  pub tried_kept : kept.tried ≡ tried_in h dealer wind
  unfolding kept_of
  tried_kept =
      tried_all (worth h dealer wind) (concealed_tally h) h.held.m h.fields.winning
      ∙ ap (λ (l : List Reading). length (up_to (with_yakuman (worth h dealer wind)) l))
      (only_readings h _ (readings_all (concealed_tally h) h.held.m h.fields.winning (all_kinds h)))

  -- the three answers
  pub answers : {A : Type 0} → (hand_score_of h dealer wind ≡ refused_with 6 → A) → (hand_score_of h dealer wind ≡ refused_with 7 → A)
      → (hand_score_of h dealer wind ≡ accepted_as kept.value (seats_of h dealer) (is_ron h.fields) kept.tried → A) → A
  unfolding hand_score_of hand_score_by
  answers {A} six seven none = go (ltb 0 kept.tried) kept.valued refl refl
    where
      go : (s v : Bool) → ltb 0 kept.tried ≡ s → kept.valued ≡ v → A
      go false v es ev = six (rw es)
      go true false es ev = seven (rw (es, ev))
      go true true es ev = none (rw (es, ev))
