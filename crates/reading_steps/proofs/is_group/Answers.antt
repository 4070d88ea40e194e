-- The code's two cases are those of `is_group`.
use Rattle.std.proofs.Common.{lt-ltb, le-ltb}
use Rattle.tiles.specs.Groups.{is_group}
use Rattle.reading_steps.proofs.is_group.Goals as goal

pub returns-then-code-lt34 : goal.returns-then-code-lt34
unfolding is_group
returns-then-code-lt34 c = rw (lt-ltb _ _ c.if-code-lt34.true) c.is_run_start.ensures

pub returns-else-code-lt34 : goal.returns-else-code-lt34
unfolding is_group
returns-else-code-lt34 c = rw (le-ltb _ _ c.if-code-lt34.false)
