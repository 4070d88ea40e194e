-- The tally has the melds before this one, kind by kind.
use Rattle.std.proofs.Common.{◌≡◌, ℕ, ◌+◌, ◌<◌, get_or, length}
use Rattle.tiles.specs.Below.{sum}
use Rattle.hand.specs.Held.{meld_holds}
use Rattle.hand.proofs.add_melds.Given as goal

abbrev pub invariant-loop-b : goal.invariant-loop-b
invariant-loop-b l =
    (length l.sum ≡ 34)
    × ((k : ℕ) → k < 34 → get_or l.sum k 0 ≡ get_or l.fn.t k 0 + sum l.b-index (λ i. meld_holds (get_or l.fn.x.melds i 0) k))
