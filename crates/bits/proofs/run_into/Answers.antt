use Rattle.std.proofs.Common.{◌≤◌, ◌+◌, sym, ◌∙◌, arith}
use Rattle.bits.specs.Bits.{bits_of}
use Rattle.bits.proofs.laws.Bytes.{run_turn, run_step, run_turns, run_three}
use Rattle.bits.proofs.run_into.Goals as goal

pub loop-i-preserved : goal.loop-i-preserved
loop-i-preserved c =
    let l = c.loop-i in
    let a = c.args in
    let h : l.i + 3 ≤ a.n = omega (arith, c.loop-i-test.true) in
    let e = run_turns a.w a.n l.i h in
    (h, omega (arith, e, l.invariant.1), sym (run_three (bits_of a.s.now) l.out c.three-t.result a.w a.n l.i l.o c.three-t.ensures h) ∙ l.invariant.2)

pub loop-j-preserved : goal.loop-j-preserved
loop-j-preserved c =
    let l = c.loop-j in
    let a = c.args in
    let e = run_turn a.w a.n l.j c.loop-j-test.true in
    (omega (arith, e, l.invariant.0), rw c.field.ensures (sym (run_step (bits_of a.s.now) l.out a.w a.n l.j l.o c.loop-j-test.true) ∙ l.invariant.1))
