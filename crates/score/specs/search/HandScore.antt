-- How the code finds a score: from what the search for the best reading kept. What it finds is stated by `Named` and `IsScore`.
use Rattle.std.specs.Prelude.{Bool, ◌||◌, cond, List, ℕ, ltb}
use Rattle.hand.specs.declared.Hand.{Hand}
use Rattle.hand.specs.Hand.{is_ron, concealed_tally}
use Rattle.hand_record.specs.Record.{Answer, Sound, Refused}
use Rattle.hand_record.specs.Record.{hand_of, read_of}
use Rattle.points.specs.declared.Seats.{Seats}
use Rattle.score_best.specs.declared.Best.{Best}
use Rattle.score_best.specs.search.Best.{best_of}
use Rattle.score.specs.declared.Scored.{Scored}
use Rattle.score.specs.Named.{seats_of, worth, refused_with, accepted_as}

-- "6, no reading; 7, readings but none with a yaku"
unfoldable pub hand_score_by : Best → Seats → Bool → Scored
hand_score_by b s ron = cond (ltb 0 b.tried) (cond b.valued (accepted_as b.value s ron b.tried) (refused_with 7)) (refused_with 6)

-- the best of the readings of a hand, up to the first yakuman
unfoldable pub kept_of : Hand → ℕ → ℕ → Best
kept_of h dealer wind = best_of (worth h dealer wind) (concealed_tally h) h.held.m h.fields.winning

-- what a sound hand scores
unfoldable pub hand_score_of : Hand → ℕ → ℕ → Scored
hand_score_of h dealer wind = hand_score_by (kept_of h dealer wind) (seats_of h dealer) (is_ron h.fields)

-- what a record scores, by what Read answers
unfoldable pub found_by : Answer → Hand → ℕ → ℕ → Scored
found_by (Refused n) h dealer wind = refused_with n
found_by (Sound f) h dealer wind = hand_score_of h dealer wind

-- and for any seats
unfoldable pub found_of : List ℕ → ℕ → ℕ → Scored
found_of s dealer wind = cond (ltb 3 dealer || ltb 1 wind) (refused_with 8) (found_by (read_of s).answer (hand_of (read_of s)) dealer wind)
