use Rattle.unfinished_writer.specs.Write.{unwritable}
use Rattle.unfinished_writer.proofs.check_writable.Goals as goal

pub returns-then-x-unused_not_zero : goal.returns-then-x-unused_not_zero
unfolding unwritable
returns-then-x-unused_not_zero c = rw (← c.unused_not_zero.ensures, c.if-x-unused_not_zero.true)

pub returns-else-x-unused_not_zero : goal.returns-else-x-unused_not_zero
unfolding unwritable
returns-else-x-unused_not_zero c = rw (← c.unused_not_zero.ensures, c.if-x-unused_not_zero.false) c.check.ensures
