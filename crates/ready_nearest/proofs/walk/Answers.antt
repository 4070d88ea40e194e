-- The choices so far are the best ones.
use Rattle.std.proofs.Common.{◌+◌, refl, arith}
use Rattle.ready_nearest.proofs.laws.Table.{walking_begin, walking_more, walking_done}
use Rattle.ready_nearest.proofs.walk.Goals as goal

pub loop-k-init : goal.loop-k-init
loop-k-init c = walking_begin _ _ _ _ refl c.requires.start_bound.0 c.requires.start_bound.1

pub loop-k-preserved : goal.loop-k-preserved
loop-k-preserved c =
    let (kind, have, room, later) = c.at_kind.ensures in
    let f = c.requires.t_len.4 (c.loop-k.k + 1) (omega arith) in
    walking_more _ _ _ _ _ _ _ _ (omega arith) f c.loop-k.invariant (rw (kind, have, room, later) at c.choose-c.ensures)

pub returns : goal.returns
returns c = walking_done _ _ _ _ _ _ (omega (arith, c.loop-k.invariant.low)) c.loop-k.invariant
