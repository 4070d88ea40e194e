-- `over` says whether a kind before this one is over four.
use Rattle.std.proofs.Common.{◌≡◌, ltb, get_or}
use Rattle.tiles.specs.Below.{any_below}
use Rattle.hand_refusals.proofs.over_four.Given as goal

abbrev pub invariant-loop-n : goal.invariant-loop-n
invariant-loop-n l = l.over ≡ any_below l.n-index (λ j. ltb 4 (get_or l.fn.t j 0))
