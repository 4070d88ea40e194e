-- The one number of swaps (`ExactlyOne`: there is an answer, and all answers have one refusal and one number; only the hand is free).
use Rattle.std.specs.Prelude.{cond, List, ℕ, ltb}
use Rattle.tiles.specs.Tally.{tally_of}
use Rattle.hand.specs.Held.{in_melds, in_others}
use Rattle.unfinished.specs.Unfinished.{held_of, refusal_of}
use Rattle.ready_nearest.specs.search.Top.{fewest}

-- "The number is the fewest tiles that must be swapped for others": that one number
unfoldable pub fewest_swaps : List ℕ → ℕ
fewest_swaps s = cond (ltb 0 (refusal_of s)) 0 (fewest (tally_of (in_others (held_of s))) (tally_of (in_melds (held_of s))) (held_of s).m)
