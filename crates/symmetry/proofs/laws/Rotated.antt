-- A table rotated: every reading is worth what it was, and the changes move on.
use Rattle.std.specs.Prelude.{ℕ, ◌+◌, ◌-◌, ◌%◌, ◌≤◌, ◌<◌, ◌≡◌, Bool, ◌||◌, not, cond, eqb, ℤ, length}
use Rattle.std.proofs.Math.Path.{refl, sym, ap}
use Rattle.std.proofs.Common.{◌∙◌, subst, inr, arith}
use Rattle.std.proofs.Math.Bool.{true, false}
use mathlib.Core.List.{List}
use borrow.Author.Tests.{ltb-true, ltb-false, le-ltb}
use Rattle.std.proofs.Math.Dec.{ltb}
use Rattle.tiles.proofs.laws.Below.{or_both, cond_le}
use Rattle.tiles.specs.Kinds.{dora_of}
use Rattle.hand.specs.declared.Fields.{Fields}
use Rattle.hand.specs.declared.Hand.{Hand}
use Rattle.hand.specs.Hand.{is_ron, in_concealed, in_hand, concealed_tally, hand_tally}
use Rattle.hand.specs.Held.{wrong_held}
use Rattle.hand.specs.Refusals.{field_over33, field_over, wrong_discarder, wrong_fields, in_record, wrong_situation, too_large, unwritable}
use Rattle.hand_record.specs.Record.{hand_of, read_of, IsSound, IsHand}
use Rattle.hand_record.proofs.laws.Clean.{Clean, Accepted, of_clean}
use Rattle.hand_record.proofs.laws.Bounds.{bounds_of}
use Rattle.reading.specs.declared.Reading.{Reading}
use Rattle.points.specs.Points.{gain}
use Rattle.points.specs.declared.Seats.{Seats}
use Rattle.yaku.specs.declared.Won.{Won}
use Rattle.yaku.specs.declared.FullReading.{FullReading}
use Rattle.yaku.specs.Yaku.{is_yakuman}
use Rattle.points_value.specs.declared.Value.{Value}
use Rattle.points_value.specs.Value.{value_of, basic_of}
use Rattle.score_best.specs.Best.{Over, with_yakuman, up_to}
use Rattle.score.specs.declared.Scored.{Scored}
use Rattle.score.specs.Named.{won_of, seats_of, groups_of, ways_of, full_reading_of, worth, IsReadingOf, ReadsWithYaku, IsReported, tried_in, scored_as, Named}
use Rattle.score.specs.Named.{reported, six, seven, accepted_as}
use Rattle.score.specs.Readings.{AreReadingsOf, readings_of}
use Rattle.score.proofs.laws.Readings.{are_readings, only_readings}
use Rattle.score.specs.Score.{score_of}
use Rattle.score.proofs.Claims.{scored}
use Rattle.symmetry.specs.Rotated.{on, rotated_dealer, rotated_hand, rotated_record, RotatedScore}
use Rattle.score_best.proofs.laws.Tried.{up_to_cong}
use Rattle.symmetry.proofs.laws.Seats.{rotated_score, rotated, on_test, wind_stays, gain_on, changes_on, refused_on}
use Rattle.hand_record.proofs.laws.Sound.{read_accepted, read_is_hand, written_back, written_sound}
use Rattle.score.proofs.laws.Written.{score_of_lem, score_eight}

-- only the gain goes by the seats
value_seats : (w : Won) (p : FullReading) (dora : ℕ) (s t : Seats) → gain s w.ron (basic_of w p dora) ≡ gain t w.ron (basic_of w p dora)
    → value_of w p dora s ≡ value_of w p dora t
unfolding value_of
value_seats w p dora s t e = rw e

-- ---- of a hand with its seats in range

module _ (n : ℕ) (h : Hand) (dealer wind : ℕ) (hw : h.fields.winner ≤ 3) (hd : dealer ≤ 3) (hc : h.fields.discarder ≤ 3) where
  abbrev k : Hand
  k = rotated_hand n h

  abbrev d : ℕ
  d = rotated_dealer n dealer

  ron_on : is_ron h.fields ≡ true → (h.fields.discarder < 4) × (k.fields.discarder ≡ on n h.fields.discarder)
  ron_on e = (omega arith, rw e)

  own_stays : (k.fields.winner + 4 - d) % 4 ≡ (h.fields.winner + 4 - dealer) % 4
  own_stays = wind_stays n h.fields.winner dealer hw hd

  won_stays : won_of k d wind ≡ won_of h dealer wind
  unfolding won_of hand_tally in_hand
  won_stays = rw own_stays

  worth_stays : (r : Reading) → worth k d wind r ≡ worth h dealer wind r
  unfolding worth full_reading_of groups_of ways_of won_of
  worth_stays r =
      ap (λ (w : Won). value_of w (full_reading_of h r) (dora_of h.fields.indicator) (seats_of k d)) won_stays
      ∙ value_seats (won_of h dealer wind) (full_reading_of h r) (dora_of h.fields.indicator) (seats_of k d) (seats_of h dealer)
      (gain_on n h.fields.winner dealer h.fields.discarder k.fields.discarder (omega arith) (omega arith) (is_ron h.fields) ron_on _)

  -- what is read is what was read
  same_readings : (r : Reading) → IsReadingOf k r → IsReadingOf h r
  unfolding concealed_tally in_concealed
  same_readings r i = i

  readings_same : (r : Reading) → IsReadingOf h r → IsReadingOf k r
  unfolding concealed_tally in_concealed
  readings_same r i = i

  yaku_back : (r : Reading) → ReadsWithYaku k d wind r → ReadsWithYaku h dealer wind r
  yaku_back r (i, y) = (same_readings r i, rw (← worth_stays r) y)

  over_on : (r q : Reading) → Over (worth h dealer wind) r q → Over (worth k d wind) r q
  over_on r q o = rw (worth_stays r, worth_stays q) o

  reported_on : (r : Reading) → IsReported h dealer wind r → IsReported k d wind r
  reported_on r a = record { yaku = (readings_same r a.yaku.0, rw (worth_stays r) a.yaku.1); first = λ q y. over_on r q (a.first q (yaku_back q y)) }

  -- all of them are tried as they were
  all_readings : AreReadingsOf k (readings_of h)
  unfolding concealed_tally in_concealed
  all_readings = are_readings h

  tried_on : tried_in k d wind ≡ tried_in h dealer wind
  tried_on =
      ap (λ (l : List Reading). length l)
      (ap (up_to (with_yakuman (worth k d wind))) (sym (only_readings k (readings_of h) all_readings))
      ∙ up_to_cong (with_yakuman (worth k d wind)) (with_yakuman (worth h dealer wind)) (readings_of h)
      (λ r. ap (λ (v : Value). is_yakuman v.yaku) (worth_stays r)))

  -- what it scores moves on
  scored_on : (r : Reading) → scored_as k d wind r ≡ rotated_score n (scored_as h dealer wind r)
  unfolding rotated_score
  scored_on r =
      let v : Value = worth h dealer wind r in
      ap (λ (t : ℕ). accepted_as (worth k d wind r) (seats_of k d) (is_ron h.fields) t) tried_on
      ∙ ap (λ (v : Value). accepted_as v (seats_of k d) (is_ron h.fields) (tried_in h dealer wind)) (worth_stays r)
      ∙ ap (λ (c : List ℤ). record { refusal = 0; h = v.han; fu = v.fu; items = v.items; yaku = v.yaku; tried = tried_in h dealer wind; changes = c })
      (changes_on n h.fields.winner dealer h.fields.discarder k.fields.discarder (omega arith) (omega arith)
      (is_ron h.fields) ron_on v.basic.0)

  named_on : {x : Scored} → Named h dealer wind x → Named k d wind (rotated_score n x)
  named_on (reported r a) = subst (λ (x : Scored). Named k d wind x) (scored_on r) (reported r (reported_on r a))
  named_on (six q) = rw (refused_on n 6) (six (λ r i. q r (same_readings r i)))
  named_on (seven q i y) = rw (refused_on n 7) (seven q (readings_same q i) (λ r z. y r (yaku_back r z)))

-- ---- the hand is accepted as it was

module _ (n : ℕ) (h : Hand) (y : Accepted h) where
  abbrev g : Hand
  g = rotated_hand n h

  abbrev f : Fields
  f = h.fields

  discarder_on : wrong_discarder f ≡ false → wrong_discarder g.fields ≡ false
  discarder_on e = go (is_ron f) e
    where
      wrong : Bool → ℕ → ℕ → Bool
      wrong b c w = cond b (eqb c w) (not (eqb c 0))

      go : (b : Bool) → wrong b f.discarder f.winner ≡ false → wrong b (cond b (on n f.discarder) f.discarder) (on n f.winner) ≡ false
      go true z = let b = bounds_of h y in on_test n f.discarder f.winner (omega (arith, b)) (omega (arith, b)) ∙ z
      go false z = z

  fields_on : wrong_fields g 0 ≡ false
  unfolding wrong_fields
  fields_on =
      let q = or_both (wrong_held h.held 0 || field_over33 f || field_over f) (wrong_discarder f) y.clean.fields in
      rw q.0 (discarder_on q.1)

  large_on : too_large g ≡ false
  large_on = go (ltb 4 h.held.m) (ltb 1 f.how) (ltb 3 f.winner) (ltb 3 f.discarder) (ltb 3 f.riichi) (ltb 7 f.situation) y.large
    where
      go : (a b c d u v : Bool) → a || b || c || d || u || v ≡ false → a || b || ltb 3 g.fields.winner || ltb 3 g.fields.discarder || u || v ≡ false
      go a b c d u v q =
          let q5 = or_both (a || b || c || d || u) v q in
          let q4 = or_both (a || b || c || d) u q5.0 in
          let q3 = or_both (a || b || c) d q4.0 in
          let q2 = or_both (a || b) c q3.0 in
          let l : g.fields.discarder ≤ 3 = cond_le (is_ron f) _ _ 3 (omega arith) (bounds_of h y).discarder in
          rw (q2.0, le-ltb 3 g.fields.winner (omega arith), le-ltb 3 g.fields.discarder l, q4.1, q5.1)

  clean_on : Clean g 0
  unfolding in_record in_hand wrong_situation
  clean_on = record { fields = fields_on; order = y.clean.order; four = y.clean.four; situation = y.clean.situation }

  accepted_on : unwritable g ≡ 0
  unfolding unwritable
  accepted_on = rw (large_on, y.unused) (of_clean g 0 clean_on)

-- ---- of a record

module _ (n : ℕ) (s : List ℕ) (i : IsSound s) where
  abbrev h₀ : Hand
  h₀ = hand_of (read_of s)

  accepted : unwritable (rotated_hand n h₀) ≡ 0
  accepted = accepted_on n h₀ (read_accepted s i)

  is_hand : IsHand (rotated_hand n h₀)
  is_hand = let j = read_is_hand s i in record { melds = j.melds; concealed = j.concealed; bytes = j.bytes }

  pub rotated_sound : IsSound (rotated_record n s)
  unfolding rotated_record
  rotated_sound = written_sound (rotated_hand n h₀) accepted is_hand

  pub rotated_hand_lem : hand_of (read_of (rotated_record n s)) ≡ rotated_hand n h₀
  unfolding rotated_record
  rotated_hand_lem = written_back (rotated_hand n h₀) accepted is_hand

  rotated_score_lem : (dealer wind : ℕ) → dealer ≤ 3 → score_of (rotated_record n s) (rotated_dealer n dealer) wind ≡ rotated_score n (score_of s dealer wind)
  unfolding rotated_record
  rotated_score_lem dealer wind d = go (ltb 1 wind) refl
    where
      go : (b : Bool) → ltb 1 wind ≡ b → score_of (rotated_record n s) (rotated_dealer n dealer) wind ≡ rotated_score n (score_of s dealer wind)
      go true e =
          let l = ltb-true 1 wind e in
          score_eight (rotated_record n s) (rotated_dealer n dealer) wind (inr l) ∙ sym (ap (rotated_score n) (score_eight s dealer wind (inr l)) ∙ refused_on n 8)
      go false e =
          let b = bounds_of h₀ (read_accepted s i) in
          let l = ltb-false 1 wind e in
          score_of_lem (rotated_hand n h₀) accepted is_hand (rotated_dealer n dealer) wind (omega arith) l
          (named_on n h₀ dealer wind b.winner d b.discarder (scored s dealer wind d l i))

  pub rotated_scores : (dealer wind : ℕ) → dealer ≤ 3 → RotatedScore n (score_of s dealer wind) (score_of (rotated_record n s) (rotated_dealer n dealer) wind)
  rotated_scores dealer wind d = rw (rotated_score_lem dealer wind d) (rotated n (score_of s dealer wind))
