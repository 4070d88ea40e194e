-- The tally has the tiles before this one, kind by kind.
use Rattle.std.proofs.Common.{◌≡◌, ℕ, ◌<◌, eqb, get_or, length}
use Rattle.tiles.specs.Below.{count_below}
use Rattle.hand.proofs.tally_of.Given as goal

abbrev pub invariant-loop-k : goal.invariant-loop-k
invariant-loop-k l =
    (length l.t ≡ 34) × ((k : ℕ) → k < 34 → get_or l.t k 0 ≡ count_below l.k-index (λ j. eqb (get_or l.tiles j 0) k))
