-- Each return is the case that its test says.
use Rattle.ready_choices.proofs.laws.Makes.{makes_pairs, makes_no_pairs}
use Rattle.ready_choices.proofs.Begun.pairs.Goals as goal

pub returns-then-possible : goal.returns-then-possible
returns-then-possible c = makes_pairs _ _ _ c.requires.0 c.requires.1 c.if-possible.true

pub returns-else-possible : goal.returns-else-possible
returns-else-possible c = makes_no_pairs _ _ _ c.requires.0 c.requires.1 c.if-possible.false
