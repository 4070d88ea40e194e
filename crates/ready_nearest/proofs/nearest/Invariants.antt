-- The rows from k on have their values.
use Rattle.ready_nearest.proofs.laws.Table.{Filling}
use Rattle.ready_nearest.proofs.nearest.Given as goal

abbrev pub invariant-loop-k : goal.invariant-loop-k
invariant-loop-k l = Filling l.t l.d l.k l.table
