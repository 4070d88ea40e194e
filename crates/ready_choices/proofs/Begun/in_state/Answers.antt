-- The parts of a state are those of its place.
use Rattle.std.proofs.Common.{refl, arith}
use Rattle.ready_choices.specs.search.Moves.{a_of, b_of, g_of}
use Rattle.ready_choices.proofs.laws.State.{state_small}
use Rattle.ready_choices.proofs.Begun.in_state.Goals as goal

pub invariant_of-result : goal.invariant_of-result
unfolding a_of b_of g_of
invariant_of-result c = record {
  sum = rw c.from.ensures (state_small _ c.if-state-lt-NO_PAIR_LEFT.true);
  one = omega arith;
  runs_a = λ l. rw c.from.ensures;
  runs_b = λ l. rw c.from.ensures;
  left = λ l. rw c.from.ensures;
  pair = λ l. refl;
}
