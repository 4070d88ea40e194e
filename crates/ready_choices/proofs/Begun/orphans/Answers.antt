-- Each return is the case that its tests say.
use Rattle.ready_choices.proofs.laws.Makes.{makes_orphans, makes_others, makes_no_orphans}
use Rattle.ready_choices.proofs.Begun.orphans.Goals as goal

pub returns-then-yaochu : goal.returns-then-yaochu
returns-then-yaochu c = makes_orphans _ _ _ _ c.requires.0 c.requires.1 c.is_yaochu-yaochu.ensures c.if-possible.true c.if-yaochu.true

pub returns-else-yaochu : goal.returns-else-yaochu
returns-else-yaochu c = makes_others _ _ _ _ c.requires.0 c.requires.1 c.is_yaochu-yaochu.ensures c.if-possible.true c.if-yaochu.false

pub returns-else-possible : goal.returns-else-possible
returns-else-possible c = makes_no_orphans _ _ _ _ c.requires.0 c.requires.1 c.is_yaochu-yaochu.ensures c.if-possible.false
