-- b is the best of the first e choices.
use Rattle.ready_nearest.specs.search.Found.{Chose, after}
use Rattle.ready_nearest.proofs.Kind.choose.Given as goal

abbrev pub invariant-loop-e : goal.invariant-loop-e
invariant-loop-e l = Chose l.self.have l.self.room (after l.self.later.now) l.self.kind l.s l.e l.b
