-- The sum of the first kinds of the suit, and the sums up to each of them.
use Rattle.std.proofs.Common.{◌≡◌, suc, ◌*◌, ◌≤◌, get_or}
use Rattle.tiles.specs.Below.{sum}
use Rattle.reading_steps.proofs.in_suit.Given as goal

abbrev pub invariant-loop-n : goal.invariant-loop-n
invariant-loop-n l =
    (l.tiles ≤ 256 * l.n-index) × (l.weight ≤ 4096 * l.n-index)
    × (l.tiles ≡ sum l.n-index (λ j. get_or l.suit j 0)) × (l.weight ≡ sum l.n-index (λ k. sum (suc k) (λ j. get_or l.suit j 0)))
