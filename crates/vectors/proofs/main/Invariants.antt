-- It counts no more than it read.
use Rattle.std.proofs.Common.{◌+◌, ◌≤◌}
use Rattle.vectors.proofs.main.Given as goal

abbrev pub invariant-loop-n : goal.invariant-loop-n
invariant-loop-n l = l.agree + l.differ ≤ l.n-counter
