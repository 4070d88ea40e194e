-- How the code finds the waits: kind by kind, by a test whether the tiles with one more have a reading. Nobody has to believe it:
-- that the test holds exactly where the kind is a wait is in laws/Found.
use Rattle.std.specs.Prelude.{Bool, true, false, ◌&&◌, ◌||◌, cond, List, ℕ, suc, ◌-◌, ltb, eqb, get_or, Result, Ok, Err}
use Rattle.std.specs.List.{list_any}
use Rattle.refusals.specs.declared.Refusal.{Refusal}
use Rattle.refusals.specs.Refusal.{number}
use Rattle.tiles.specs.Below.{tabulate}
use Rattle.hand.specs.declared.Held.{Held}
use Rattle.hand.specs.Held.{in_held}
use Rattle.reading.specs.Reading.{is_seven_pairs, is_orphans}
use Rattle.reading_splits.specs.search.SplitsInto.{splits_into}
use Rattle.unfinished.specs.Unfinished.{held_of, refusal_of}
use Rattle.waits.specs.declared.Waits.{Waits}
use Rattle.waits.specs.Waits.{with_one, refused_with}

-- the tiles t have a reading with m melds
unfoldable pub reads : List ℕ → ℕ → Bool
reads t m = splits_into (suc (4 - m)) true t || (eqb m 0 && (is_seven_pairs t || is_orphans t))

-- k is a wait
unfoldable pub is_wait : Held → ℕ → Bool
is_wait x k = ltb (in_held x k) 4 && reads (with_one x k) x.m

-- the set of waits
unfoldable pub wait_set : Held → List Bool
wait_set x = tabulate 34 0 (is_wait x)

-- the answer
unfoldable pub found_of : List ℕ → List ℕ → Waits
found_of s discards =
    let w = wait_set (held_of s) in
    cond (ltb 0 (refusal_of s)) (refused_with (refusal_of s))
    (cond (list_any (ltb 33) discards) (refused_with 15) (record { refusal = 0; waits = w; furiten = list_any (λ k. get_or w k false) discards }))

-- what C is given of a result
abbrev pub answer_in : Result Waits Refusal → Waits
answer_in (Ok found) = found
answer_in (Err r) = refused_with (number r)
