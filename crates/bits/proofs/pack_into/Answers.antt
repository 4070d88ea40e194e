use Rattle.std.proofs.Common.{sym, ◌∙◌, arith}
use Rattle.bits.proofs.laws.Pack.{pack_step, turn}
use Rattle.bits.proofs.pack_into.Goals as goal

pub loop-i-preserved : goal.loop-i-preserved
loop-i-preserved c =
    let l = c.loop-i in
    let a = c.args in
    let now = turn _ _ _ _ _ c.loop-i-test.true c.requires.1 l.invariant.0 c.requires.2 in
    (now.2, rw c.put.ensures (sym (pack_step a.ws.now a.vs.now l.b l.i l.o c.loop-i-test.true (omega arith)) ∙ l.invariant.1))
