-- Each return is the case that its test says.
use Rattle.std.proofs.Common.{lt-ltb, le-ltb}
use Rattle.reading.specs.search.Readings.{passes}
use Rattle.reading_steps.proofs.passes.Goals as goal

pub returns-then-code-lt34 : goal.returns-then-code-lt34
unfolding passes
returns-then-code-lt34 c = rw (lt-ltb _ _ c.if-code-lt34.true)

pub returns-else-code-lt34 : goal.returns-else-code-lt34
unfolding passes
returns-else-code-lt34 c = rw (le-ltb _ _ c.if-code-lt34.false)
