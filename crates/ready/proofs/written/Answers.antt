-- Each turn writes a tile or goes on to the next kind.
use Rattle.std.proofs.Common.{◌<◌, arith, rules}
use Rattle.ready.proofs.laws.Written.{written_none, written_more, written_next, written_room, written_done}
use Rattle.ready.proofs.written.Goals as goal

pub loop-k-init : goal.loop-k-init
loop-k-init c = written_none _

pub bounds-tiles-i : goal.bounds-tiles-i
bounds-tiles-i c = written_room _ _ _ _ _ c.loop-j.invariant.2 (omega arith) (omega arith) c.requires

pub overflow_add-i : goal.overflow_add-i
overflow_add-i c =
    let room : c.loop-j.i < 13 = written_room _ _ _ _ _ c.loop-j.invariant.2 (omega arith) (omega arith) c.requires in
    omega arith

pub loop-j-preserved : goal.loop-j-preserved
loop-j-preserved c =
    let room : c.loop-j.i < 13 = written_room _ _ _ _ _ c.loop-j.invariant.2 (omega arith) (omega arith) c.requires in
    (omega arith, omega arith, written_more _ _ _ _ _ c.loop-j.invariant.2 (omega arith) room)

pub loop-k-preserved : goal.loop-k-preserved
loop-k-preserved c = written_next _ _ _ _ _ c.loop-j.invariant.2 (omega arith)

pub returns : goal.returns
returns c = written_done _ _ _ _ _ c.loop-k.invariant (search rules) (omega arith) (omega arith) (omega arith)
