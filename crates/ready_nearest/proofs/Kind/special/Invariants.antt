-- The most of the first e choices.
use Rattle.std.proofs.Common.{◌≡◌}
use Rattle.ready_choices.specs.search.Moves.{most, worth}
use Rattle.ready_nearest.specs.search.Found.{after}
use Rattle.ready_nearest.proofs.Kind.special.Given as goal

abbrev pub invariant-loop-e : goal.invariant-loop-e
invariant-loop-e l = l.v ≡ most l.e (worth l.self.have l.self.room (after l.self.later.now) l.self.kind l.q.state)
