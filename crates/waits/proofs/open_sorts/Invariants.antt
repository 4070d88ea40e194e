-- The first c suits and honours with tiles over threes are told.
use Rattle.waits.proofs.laws.Over.{Told}
use Rattle.waits.proofs.open_sorts.Given as goal

abbrev pub invariant-loop-c : goal.invariant-loop-c
invariant-loop-c l = Told l.t l.c l.o-items
