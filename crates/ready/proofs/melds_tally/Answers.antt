-- Of each kind as many as are held and not concealed.
use Rattle.std.proofs.Common.{arith}
use Rattle.ready.proofs.laws.Tallies.{melds_left, melds_done}
use Rattle.ready.proofs.melds_tally.Goals as goal

pub overflow_sub-n : goal.overflow_sub-n
overflow_sub-n c =
    let l = c.loop-k in
    omega (arith, melds_left c.args.x _ _ c.others_tally-others.ensures c.held_tally-melds.ensures l.k (omega arith), l.invariant.2 l.k (omega arith))

pub returns : goal.returns
returns c =
    let l = c.loop-k in
    melds_done _ _ _ c.others_tally-others.ensures c.held_tally-melds.ensures l.n-items l.k l.invariant.0 (omega arith) l.invariant.1
