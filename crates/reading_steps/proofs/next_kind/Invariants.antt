-- The kinds so far have no tile.
use Rattle.std.proofs.Common.{◌≤◌}
use Rattle.reading.specs.search.Readings.{NoneFrom}
use Rattle.reading_steps.proofs.next_kind.Given as goal

abbrev pub invariant-loop-i : goal.invariant-loop-i
invariant-loop-i l = (l.fn.k ≤ l.i) × NoneFrom l.t l.fn.k l.i
