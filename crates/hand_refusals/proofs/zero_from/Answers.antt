use Rattle.std.proofs.Common.{sym}
use Rattle.tiles.proofs.laws.Below.{every_none, every_more, every_stop, every_done}
use Rattle.hand_refusals.proofs.zero_from.Goals as goal

pub loop-i-init : goal.loop-i-init
loop-i-init c = every_none _

pub returns-then-not-i-n : goal.returns-then-not-i-n
returns-then-not-i-n c = sym (every_stop _ _ c.loop-i.i c.loop-i-test.true c.if-not-i-n.true)

pub loop-i-preserved : goal.loop-i-preserved
loop-i-preserved c = every_more _ _ c.loop-i.invariant c.if-not-i-n.false

pub returns : goal.returns
returns c = sym (every_done _ _ _ c.loop-i.auto.i-end c.loop-i-test.false c.loop-i.invariant)
