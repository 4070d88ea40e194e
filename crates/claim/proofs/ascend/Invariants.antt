-- What is left to test gives the whole.
use Rattle.std.proofs.Common.{◌≡◌, drop}
use Rattle.claim.specs.search.Claimed.{ascends}
use Rattle.claim.proofs.ascend.Given as goal

abbrev pub invariant-loop-c : goal.invariant-loop-c
invariant-loop-c l = ascends l.low (drop l.c-index l.codes) ≡ ascends 0 l.codes
