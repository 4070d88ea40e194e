-- Each return is the case that its tests say.
use Rattle.std.proofs.Common.{sym, ◌∙◌, arith}
use Rattle.reading.proofs.laws.Groups.{run_has, triplet_has, holds_pair, holds_group}
use Rattle.reading_steps.proofs.holds.Goals as goal

pub returns-then-r-eq0 : goal.returns-then-r-eq0
returns-then-r-eq0 c = holds_pair _ _ _ _ c.if-r-eq0.true

pub returns-then-g-lt34 : goal.returns-then-g-lt34
returns-then-g-lt34 c = sym (run_has _ _ c.if-g-lt34.true) ∙ holds_group _ _ _ _ c.if-r-eq0.false (omega arith)

pub returns-else-g-lt34 : goal.returns-else-g-lt34
returns-else-g-lt34 c = sym (triplet_has _ _ c.if-g-lt34.false) ∙ holds_group _ _ _ _ c.if-r-eq0.false (omega arith)
