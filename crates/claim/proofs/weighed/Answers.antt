-- Test by test.
use Rattle.std.proofs.Common.{ne_eqb, eq-eqb, lt-ltb, le-ltb}
use Rattle.claim.specs.search.Verdict.{weighed_as}
use Rattle.claim.proofs.weighed.Goals as goal

pub returns-then-not-yaku : goal.returns-then-not-yaku
unfolding weighed_as
returns-then-not-yaku c = rw c.if-not-yaku.true

pub returns-then-paid-gain : goal.returns-then-paid-gain
unfolding weighed_as
returns-then-paid-gain c = rw (c.if-not-yaku.false, ne_eqb _ _ c.if-paid-gain.true)

pub returns-then-less : goal.returns-then-less
unfolding weighed_as
returns-then-less c = rw (c.if-not-yaku.false, eq-eqb _ _ c.if-paid-gain.false, lt-ltb _ _ c.if-less.true)

pub returns : goal.returns
unfolding weighed_as
returns c = rw (c.if-not-yaku.false, eq-eqb _ _ c.if-paid-gain.false, le-ltb _ _ c.if-less.false)
