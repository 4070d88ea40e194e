-- The messages of a game's scores, of waits and of readiness, as lists of clips (SPEECH, Messages), in language l.
use Rattle.std.specs.Prelude.{false, cond, List, [], ◌∷◌, ◌++◌, ℕ, eqb, ℤ, pos, get_or}
use Rattle.tiles.specs.Below.{any_below}
use Rattle.position.specs.declared.Position.{Position}
use Rattle.waits.specs.declared.Waits.{Waits}
use Rattle.unfinished.specs.Unfinished.{refusal_of}
use Rattle.ready.specs.Answer.{fewest_swaps}
use Rattle.speech_numerals.specs.Numerals.{numeral}
use Rattle.speech_told.specs.Phrases.{score_clips, counted_clips, tile_clips}
use Rattle.speech_score.specs.declared.Said.{Said}
use Rattle.speech_score.specs.Said.{Answers}

-- "of seats 0 to 3 the player, 76 where negative, the amount, 68"
unfoldable pub four_scores : ℕ → ℕ → List ℤ → List ℕ
four_scores l dealer s =
    score_clips l dealer 0 (get_or s 0 (pos 0)) ++
    (score_clips l dealer 1 (get_or s 1 (pos 0)) ++ (score_clips l dealer 2 (get_or s 2 (pos 0)) ++ score_clips l dealer 3 (get_or s 3 (pos 0))))

-- "Scores of a game: ..; 77 and the sticks where there are any; 78 and the counters where there are any"
unfoldable pub scores_message : ℕ → Position → List ℕ
scores_message l g = four_scores l g.dealer g.scores ++ (counted_clips l 77 g.sticks ++ counted_clips l 78 g.counter)

-- what a call that says it answers, with the buffer before and after: "Any value of the game may be given"
abbrev pub SaysScores : ℕ → Position → List ℕ → Said → List ℕ → Type 0
SaysScores l g old r new = Answers l 0 (scores_message l g) old r new

-- "Waits ..: 79 and the tiles ascending, or 80; 81 where it is in furiten"
unfoldable pub waits_message : Waits → List ℕ
waits_message w = cond (any_below 34 (λ k. get_or w.waits k false)) (79 ∷ tile_clips w.waits) (80 ∷ []) ++ cond w.furiten (81 ∷ []) []

-- "Ready ..: 82, or the swaps and 83"
unfoldable pub ready_message : ℕ → ℕ → List ℕ
ready_message l swaps = cond (eqb swaps 0) (82 ∷ []) (numeral l swaps ++ (83 ∷ []))

-- what a call that says it answers, with the buffer before and after: it says the number, which is the same whichever hand comes with it (02, S-14)
abbrev pub SaysReady : ℕ → List ℕ → List ℕ → Said → List ℕ → Type 0
SaysReady l s old r new = Answers l (refusal_of s) (ready_message l (fewest_swaps s)) old r new
