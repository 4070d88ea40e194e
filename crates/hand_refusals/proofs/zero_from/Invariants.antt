-- Each place from n on below i is 0.
use Rattle.std.proofs.Common.{◌≡◌, true, ◌||◌, ltb, eqb, get_or}
use Rattle.tiles.specs.Below.{all_below}
use Rattle.hand_refusals.proofs.zero_from.Given as goal

abbrev pub invariant-loop-i : goal.invariant-loop-i
invariant-loop-i l = all_below l.i (λ j. ltb j l.n || eqb (get_or l.c j 0) 0) ≡ true
