use Rattle.std.proofs.Common.{◌≡◌, ◌+◌, ◌-◌, sym, ◌∙◌, arith}
use Rattle.bits.proofs.laws.Pack.{put_step}
use Rattle.bits.proofs.put.Goals as goal

pub loop-i-preserved : goal.loop-i-preserved
loop-i-preserved c =
    let a = c.args in
    let l = c.loop-i in
    let bit : a.n - 1 - l.i ≡ a.n - l.i - 1 = omega arith in
    let left : a.n - (l.i + 1) ≡ a.n - l.i - 1 = omega arith in
    let place : a.at + (l.i + 1) ≡ a.at + l.i + 1 = omega arith in
    rw (bit, left, place) (sym (put_step l.b (a.at + l.i) (a.n - l.i) a.v (omega (arith, c.loop-i-test.true))) ∙ l.invariant)
