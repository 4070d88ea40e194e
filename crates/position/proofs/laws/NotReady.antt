-- No booking is refused with 12 (02, S-7).
use Rattle.std.specs.Prelude.{◌≡◌, Bool, true, false, ◌||◌, cond, ℕ, ◌≤◌, eqb}
use Rattle.std.proofs.Common.{ap}
use mathlib.Core.List.{List, [], ◌∷◌}
use native.Mathlib.Omega.{arith}
use Rattle.std.proofs.Math.Dec.{ltb}
use Rattle.hand.specs.declared.Hand.{Hand}
use Rattle.hand_record.specs.Record.{refusal_in, read_of}
use Rattle.hand_record.proofs.laws.Bounds.{read_le}
use Rattle.score.specs.declared.Scored.{Scored}
use Rattle.score.specs.Named.{Named, reported, six, seven}
use Rattle.score.specs.IsScore.{IsScore, eight, unreadable, read}
use Rattle.score.specs.Score.{score_of}
use Rattle.score.proofs.laws.One.{is_score}
use Rattle.position.specs.declared.Position.{Position}
use Rattle.position.specs.Booking.{Booking, result, riichi, win, draw, chombo, pao, multi_ron}
use Rattle.hand_rons.specs.Records.{records_of, first_unreadable, not_on_one_tile}
use Rattle.position.specs.Ledger.{is_declared, not_open, hand_for, scored_for, riichi_mismatch, lacks_stick, record_refusals}
use Rattle.position.specs.search.First.{win_refusal, first_refused}
use Rattle.position.specs.Ledger.{wrong_pao, refusal_for, refusals_of}

-- ---- Score's refusals are 8 at most

module _ (s : List ℕ) (dealer wind : ℕ) where
  named_le : {h : Hand} {a : Scored} → Named h dealer wind a → a.refusal ≤ 8
  named_le (reported r i) = omega arith
  named_le (six n) = omega arith
  named_le (seven q i n) = omega arith

  answered_le : {a : Scored} → IsScore s dealer wind a → a.refusal ≤ 8
  answered_le (eight e) = omega arith
  answered_le (unreadable d w n e) = let same : refusal_in (read_of s).answer ≡ n = ap refusal_in e in omega (arith, read_le s)
  answered_le (read d w f e m) = named_le m

  score_le : (score_of s dealer wind).refusal ≤ 8
  score_le = answered_le (is_score s dealer wind)

-- ---- no refusal is 12

abbrev Not12 : ℕ → Type 0
Not12 n = n ≡ 12 → ⊥

neither : (b : Bool) (n m : ℕ) → Not12 n → Not12 m → Not12 (cond b n m)
neither true n m p q = p
neither false n m p q = q

unreadable_12 : (ss : List (List ℕ)) → Not12 (first_unreadable ss)
unfolding first_unreadable
unreadable_12 [] = λ e. omega arith
unreadable_12 (s ∷ ss) = neither (ltb 0 (refusal_in (read_of s).answer)) (refusal_in (read_of s).answer) _ (λ e. omega (arith, read_le s)) (unreadable_12 ss)

module _ (l : Position) where
  win_12 : (s : List ℕ) → Not12 (win_refusal l s)
  win_12 s =
      let v : ℕ = (scored_for l s).refusal in
      neither (ltb 0 v) v _ (λ e. omega (arith, score_le s l.dealer l.wind))
      (neither (riichi_mismatch l (hand_for s)) 11 0 (λ e. omega arith) (λ e. omega arith))

  refused_12 : (ss : List (List ℕ)) → Not12 (first_refused l ss)
  unfolding record_refusals
  refused_12 [] = λ e. omega arith
  refused_12 (s ∷ ss) = neither (ltb 0 (win_refusal l s)) (win_refusal l s) _ (win_12 s) (refused_12 ss)

  pub never_12 : (b : Booking) → Not12 (refusal_for l b)
  unfolding refusal_for refusals_of
  never_12 (riichi seat) =
      neither (ltb 3 seat) 8 _ (λ e. omega arith)
      (neither (not_open l) 9 _ (λ e. omega arith)
      (neither (is_declared l seat) 10 _ (λ e. omega arith) (neither (lacks_stick l seat) 21 0 (λ e. omega arith) (λ e. omega arith))))
  never_12 (result (win s)) = neither (not_open l) 9 _ (λ e. omega arith) (win_12 s)
  never_12 (result (draw bits)) = neither (ltb 15 bits) 8 _ (λ e. omega arith) (neither (not_open l) 9 0 (λ e. omega arith) (λ e. omega arith))
  never_12 (result (chombo seat)) = neither (ltb 3 seat) 8 _ (λ e. omega arith) (neither (not_open l) 9 0 (λ e. omega arith) (λ e. omega arith))
  never_12 (pao holder feeder yaku) =
      neither (ltb 3 holder || ltb 3 feeder) 8 _ (λ e. omega arith)
      (neither (not_open l) 9 _ (λ e. omega arith) (neither (wrong_pao l holder feeder yaku) 18 0 (λ e. omega arith) (λ e. omega arith)))
  never_12 (result (multi_ron number s)) =
      let rs = records_of number s in
      neither (not_open l) 9 _ (λ e. omega arith)
      (neither (eqb number 0 || ltb 3 number) 17 _ (λ e. omega arith)
      (neither (ltb 0 (first_unreadable rs)) (first_unreadable rs) _ (unreadable_12 rs)
      (neither (not_on_one_tile rs) 17 (first_refused l rs) (λ e. omega arith) (refused_12 rs))))
