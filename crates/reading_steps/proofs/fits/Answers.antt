-- Each return is the case that its tests say.
use Rattle.std.proofs.Common.{sym, ◌∙◌, lt-ltb, le-ltb, arith}
use Rattle.reading.specs.search.Readings.{fits}
use Rattle.reading.proofs.laws.Groups.{run_in, triplet_in}
use Rattle.reading_steps.proofs.fits.Goals as goal

pub returns-then-not-is_group : goal.returns-then-not-is_group
unfolding fits
returns-then-not-is_group c = rw (sym c.is_group.ensures ∙ c.if-not-is_group.true)

pub bounds-t-c-then-code-lt34 : goal.bounds-t-c-then-code-lt34
bounds-t-c-then-code-lt34 c = omega (arith, run_in _ (sym c.is_group.ensures ∙ c.if-not-is_group.false) c.if-code-lt34.true)

pub bounds-t-c-then-code-lt34-2 : goal.bounds-t-c-then-code-lt34-2
bounds-t-c-then-code-lt34-2 c = omega (arith, run_in _ (sym c.is_group.ensures ∙ c.if-not-is_group.false) c.if-code-lt34.true)

pub bounds-t-k : goal.bounds-t-k
bounds-t-k c = omega (arith, triplet_in _ (sym c.is_group.ensures ∙ c.if-not-is_group.false) c.if-code-lt34.false)

pub returns-then-code-lt34 : goal.returns-then-code-lt34
unfolding fits
returns-then-code-lt34 c = rw (sym c.is_group.ensures ∙ c.if-not-is_group.false, lt-ltb _ _ c.if-code-lt34.true)

pub returns-else-code-lt34 : goal.returns-else-code-lt34
unfolding fits
returns-else-code-lt34 c = rw (sym c.is_group.ensures ∙ c.if-not-is_group.false, le-ltb _ _ c.if-code-lt34.false)
