-- What the search finds for a sound hand and for a record, case by case.
use Rattle.std.specs.Prelude.{ℕ, ◌≤◌, ◌<◌, ◌≡◌, Bool, ◌&&◌, ◌||◌, not, cond, ltb}
use Rattle.std.proofs.Math.Path.{refl, ap}
use Rattle.std.proofs.Common.{sym, ◌∙◌, arith, lt-ltb, le-ltb}
use Rattle.std.proofs.Math.Bool.{true, false}
use mathlib.Core.List.{List, [], ◌∷◌}
use Rattle.hand.specs.declared.Fields.{Fields}
use Rattle.hand.specs.declared.Hand.{Hand}
use Rattle.hand.specs.Hand.{is_ron, concealed_tally}
use Rattle.hand_record.specs.Record.{Answer, Sound, Refused, HandRead}
use Rattle.hand_record.specs.Record.{refusal_in, hand_of, read_of}
use Rattle.hand_record.proofs.laws.Bounds.{answer_is, hand_is, refused_number}
use Rattle.reading.specs.declared.Reading.{Reading}
use Rattle.reading.specs.search.Readings.{readings}
use Rattle.reading.specs.search.Folded.{folded}
use Rattle.points_value.specs.declared.Value.{Value}
use Rattle.points_value.specs.Value.{value_of}
use Rattle.score_best.specs.declared.Best.{Best}
use Rattle.score_best.specs.declared.HandCommon.{HandCommon}
use Rattle.score_best.specs.Best.{with_yaku, with_yakuman}
use Rattle.score_best.specs.search.Best.{beats, none_of, taking, passing, keep_better_by, best_of}
use Rattle.score_best.proofs.laws.Top.{basic_le}
use Rattle.score.specs.declared.Scored.{Scored}
use Rattle.score.specs.Named.{won_of, seats_of, worth, refused_with, accepted_as}
use Rattle.score.specs.search.HandCommon.{hand_common_of}
use Rattle.score.specs.search.HandScore.{hand_score_by, kept_of, hand_score_of, found_by, found_of}

-- ---- basic points are at most 8,000

pub worth_le : (h : Hand) (dealer wind : ℕ) (r : Reading) → (worth h dealer wind r).basic.0 ≤ 8000
unfolding worth value_of
worth_le h dealer wind r = basic_le _ _ _

module _ (of : Reading → Value) (le : (r : Reading) → (of r).basic.0 ≤ 8000) where
  keep_better_le : (b : Best) (r : Reading) → b.value.basic.0 ≤ 8000 → (keep_better_by of (with_yakuman of) b r).value.basic.0 ≤ 8000
  unfolding keep_better_by
  keep_better_le b r h = go b.done (with_yaku of r && (not b.valued || beats (of r) b.value))
    where
      go : (d c : Bool) → (cond {A = Best} d b (cond {A = Best} c (taking of (with_yakuman of) b r) (passing of (with_yakuman of) b r))).value.basic.0 ≤ 8000
      go true c = h
      go false true = le r
      go false false = h

  folded_le : (b : Best) (rs : List Reading) → b.value.basic.0 ≤ 8000 → (folded (keep_better_by of (with_yakuman of)) b rs).value.basic.0 ≤ 8000
  unfolding folded
  folded_le b [] h = h
  folded_le b (r ∷ rs) h = folded_le (keep_better_by of (with_yakuman of) b r) rs (keep_better_le b r h)

-- ---- a sound hand, by what the search kept

module _ (h : Hand) (dealer wind : ℕ) where
  pub kept_le : (kept_of h dealer wind).value.basic.0 ≤ 8000
  unfolding kept_of best_of none_of
  kept_le = folded_le (worth h dealer wind) (worth_le h dealer wind) (none_of 0) (readings (concealed_tally h) h.held.m h.fields.winning) (omega arith)

  module _ (b : Best) (e : b ≡ kept_of h dealer wind) where
    pub basic_kept : b.value.basic.0 ≤ 8000
    basic_kept = rw e kept_le

    hand_score_by_lem : hand_score_by b (seats_of h dealer) (is_ron h.fields) ≡ hand_score_of h dealer wind
    unfolding hand_score_of
    hand_score_by_lem = ap (λ (x : Best). hand_score_by x (seats_of h dealer) (is_ron h.fields)) e

    -- with the seats and the way of winning that every reading has in common
    pub hand_score_accepted : (t : HandCommon) → t ≡ hand_common_of h dealer wind → 0 < b.tried → b.valued ≡ true
        → accepted_as b.value t.seats t.won.ron b.tried ≡ hand_score_of h dealer wind
    unfolding hand_score_by hand_common_of won_of
    hand_score_accepted t c s v =
        ap (λ (x : HandCommon). accepted_as b.value x.seats x.won.ron b.tried) c ∙ rw (lt-ltb 0 b.tried s, v) at hand_score_by_lem

    pub hand_score_seven : 0 < b.tried → b.valued ≡ false → refused_with 7 ≡ hand_score_of h dealer wind
    unfolding hand_score_by
    hand_score_seven s v = rw (lt-ltb 0 b.tried s, v) at hand_score_by_lem

    pub hand_score_six : b.tried ≤ 0 → refused_with 6 ≡ hand_score_of h dealer wind
    unfolding hand_score_by
    hand_score_six s = rw (le-ltb 0 b.tried s) at hand_score_by_lem

-- ---- a record

pub found_eight : (s : List ℕ) (dealer wind : ℕ) → ltb 3 dealer || ltb 1 wind ≡ true → refused_with 8 ≡ found_of s dealer wind
unfolding found_of
found_eight s dealer wind e = rw e

module _ (s : List ℕ) (dealer wind : ℕ) (r : HandRead) (q : ltb 3 dealer || ltb 1 wind ≡ false) (e : r ≡ read_of s) where
  by_answer : (a : Answer) → r.answer ≡ a → found_by a (hand_of (read_of s)) dealer wind ≡ found_of s dealer wind
  unfolding found_of
  by_answer a told = rw q (ap (λ (x : Answer). found_by x (hand_of (read_of s)) dealer wind) (sym (answer_is s r e told)))

  pub found_refused : (n w : ℕ) (x : Scored) → r.answer ≡ Refused n → w ≡ refusal_in r.answer → x ≡ refused_with w → x ≡ found_of s dealer wind
  unfolding found_by
  found_refused n w x told why ex = ex ∙ ap refused_with (why ∙ ap refusal_in told) ∙ by_answer (Refused n) told

  pub found_sound : (f : Fields) (x : Scored) → r.answer ≡ Sound f → x ≡ hand_score_of (record { fields = f; held = r.held }) dealer wind
      → x ≡ found_of s dealer wind
  unfolding found_by
  found_sound f x told ex = ex ∙ ap (λ (y : Hand). hand_score_of y dealer wind) (hand_is s r e f told) ∙ by_answer (Sound f) told

-- ---- a record, by what Read answers

module _ (s : List ℕ) (dealer wind : ℕ) (d : dealer ≤ 3) (w : wind ≤ 1) where
  seats_right : ltb 3 dealer || ltb 1 wind ≡ false
  seats_right = rw (le-ltb 3 dealer d, le-ltb 1 wind w)

  pub found_read : refusal_in (read_of s).answer ≡ 0 → found_of s dealer wind ≡ hand_score_of (hand_of (read_of s)) dealer wind
  unfolding found_of found_by
  found_read e = rw seats_right (go (read_of s).answer refl)
    where
      go : (a : Answer) → (read_of s).answer ≡ a → found_by a (hand_of (read_of s)) dealer wind ≡ hand_score_of (hand_of (read_of s)) dealer wind
      go (Refused n) q = let z : n ≡ 0 = ap refusal_in (sym q) ∙ e in absurd (omega (arith, refused_number s n q))
      go (Sound f) q = refl

  pub found_unreadable : (n : ℕ) → refusal_in (read_of s).answer ≡ n → 0 < n → found_of s dealer wind ≡ refused_with n
  unfolding found_of found_by
  found_unreadable n e l = rw seats_right (go (read_of s).answer refl)
    where
      go : (a : Answer) → (read_of s).answer ≡ a → found_by a (hand_of (read_of s)) dealer wind ≡ refused_with n
      go (Refused k) q = ap refused_with (ap refusal_in (sym q) ∙ e)
      go (Sound f) q = let z : 0 ≡ n = ap refusal_in (sym q) ∙ e in absurd (omega arith)
