-- Each return is the case that its test says.
use Rattle.ready_choices.proofs.laws.Makes.{value_with, value_without}
use Rattle.ready_choices.proofs.Move.value.Goals as goal

pub returns-then-possible : goal.returns-then-possible
returns-then-possible c = value_with _ _ _ _ _ c.if-possible.true c.min.ensures

pub returns-else-possible : goal.returns-else-possible
returns-else-possible c = value_without _ _ _ _ c.if-possible.false
