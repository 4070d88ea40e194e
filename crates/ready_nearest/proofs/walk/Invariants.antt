-- The choices so far are the best ones.
use Rattle.ready_nearest.proofs.laws.Table.{Walking}
use Rattle.ready_nearest.proofs.walk.Given as goal

abbrev pub invariant-loop-k : goal.invariant-loop-k
invariant-loop-k l = Walking l.t l.d l.start l.k l.s l.tiles-items
