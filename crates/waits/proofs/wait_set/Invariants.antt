-- The first k places say which of the kinds are waits.
use Rattle.std.proofs.Common.{◌≡◌, length}
use Rattle.waits.proofs.laws.Found.{Told}
use Rattle.waits.proofs.wait_set.Given as goal

abbrev pub invariant-loop-k : goal.invariant-loop-k
invariant-loop-k l = (length l.wait-items ≡ 34) × Told l.m l.t l.held l.wait-items l.k
