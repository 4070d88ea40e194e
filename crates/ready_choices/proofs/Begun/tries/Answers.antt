-- Each return is the case that its tests say.
use Rattle.std.proofs.Common.{sym, ◌∙◌, arith, lt-ltb, le-ltb}
use Rattle.ready_choices.specs.search.Made.{tries_of}
use Rattle.ready_choices.proofs.Begun.tries.Goals as goal

pub returns-then-self-ge-NO_PAIR_LEFT : goal.returns-then-self-ge-NO_PAIR_LEFT
unfolding tries_of
returns-then-self-ge-NO_PAIR_LEFT c = (rw (le-ltb _ _ c.if-self-ge-NO_PAIR_LEFT.true), omega arith)

pub returns-then-is_run_start : goal.returns-then-is_run_start
unfolding tries_of
returns-then-is_run_start c = (
  rw (lt-ltb _ _ c.if-self-ge-NO_PAIR_LEFT.false, sym c.is_run_start.ensures ∙ c.if-is_run_start.true) c.choices-n.ensures.0,
  c.choices-n.ensures.1,
)

pub returns-else-is_run_start : goal.returns-else-is_run_start
unfolding tries_of
returns-else-is_run_start c = (
  rw (lt-ltb _ _ c.if-self-ge-NO_PAIR_LEFT.false, sym c.is_run_start.ensures ∙ c.if-is_run_start.false, ← c.choices-n.ensures.0) (omega (arith, c.min.ensures)),
  omega (arith, c.min.ensures),
)
