-- How the code finds the n-th reading: by two searches, for it and for the best. What it finds is stated by `IsNth`.
use Rattle.std.specs.Prelude.{Bool, ◌&&◌, ◌||◌, cond, List, ℕ, eqb, ltb, length, get_or}
use Rattle.hand.specs.declared.Hand.{Hand}
use Rattle.hand_record.specs.Record.{Answer, Sound, Refused}
use Rattle.hand_record.specs.Record.{hand_of, read_of}
use Rattle.reading.specs.declared.Reading.{Reading}
use Rattle.yaku.specs.Yaku.{value_han_of}
use Rattle.score_best.specs.declared.HandCommon.{HandCommon}
use Rattle.score_best.specs.declared.Best.{Best}
use Rattle.score_best.specs.search.HandCommon.{full_reading_in}
use Rattle.score.specs.Readings.{readings_of}
use Rattle.score.specs.search.HandScore.{kept_of}
use Rattle.score_readings.specs.declared.NthReading.{NthReading}
use Rattle.score_readings.specs.Shown.{nth_in, shown_with, shown_as}
use Rattle.score_readings.specs.IsNth.{refused_with}

-- two readings are the same
unfoldable pub same_reading : Reading → Reading → Bool
same_reading a b =
    let parts = (eqb a.shape b.shape && eqb a.pair b.pair) && eqb a.place b.place in
    let two = (parts && eqb (get_or a.groups 0 0) (get_or b.groups 0 0)) && eqb (get_or a.groups 1 0) (get_or b.groups 1 0) in
    (two && eqb (get_or a.groups 2 0) (get_or b.groups 2 0)) && eqb (get_or a.groups 3 0) (get_or b.groups 3 0)

-- what is shown of the reading that a search found
abbrev pub shown_by : HandCommon → Best → Bool → NthReading
shown_by t b reported =
    shown_with b.tried b.reading b.value (value_han_of t.won (full_reading_in t b.reading)) (get_or t.won.tally t.dora 0) t.won.closed
    t.seats t.won.ron reported

module _ (h : Hand) (dealer wind : ℕ) where
  -- r is the best that the search kept
  unfoldable pub is_kept : Reading → Bool
  is_kept r = (kept_of h dealer wind).valued && same_reading (kept_of h dealer wind).reading r

  -- of a sound hand
  unfoldable pub hand_nth_of : ℕ → NthReading
  hand_nth_of n =
      cond (eqb n 0 || ltb (length (readings_of h)) n) (refused_with 8)
      (shown_as h dealer wind (nth_in (readings_of h) n) (is_kept (nth_in (readings_of h) n)))

-- by what Read answers
unfoldable pub found_by : Answer → Hand → ℕ → ℕ → ℕ → NthReading
found_by (Refused k) h dealer wind n = refused_with k
found_by (Sound f) h dealer wind n = hand_nth_of h dealer wind n

-- and for any seats
unfoldable pub found_of : List ℕ → ℕ → ℕ → ℕ → NthReading
found_of s dealer wind n = cond (ltb 3 dealer || ltb 1 wind) (refused_with 8) (found_by (read_of s).answer (hand_of (read_of s)) dealer wind n)
