use Rattle.hand.specs.Refusals.{unwritable}
use Rattle.hand_refusals.proofs.check_writable.Goals as goal

pub returns-then-too_large-unused_not_zero : goal.returns-then-too_large-unused_not_zero
unfolding unwritable
returns-then-too_large-unused_not_zero c = rw (← c.unused_not_zero.ensures, ← c.too_large.ensures, c.if-too_large-unused_not_zero.true)

pub returns-else-too_large-unused_not_zero : goal.returns-else-too_large-unused_not_zero
unfolding unwritable
returns-else-too_large-unused_not_zero c =
    rw (← c.unused_not_zero.ensures, ← c.too_large.ensures, c.if-too_large-unused_not_zero.false) c.check.ensures
