use Rattle.std.proofs.Common.{◌≡◌, ◌+◌, ◌-◌, ◌<◌, refl, arith}
use Rattle.hand_rons.proofs.laws.Hands.{filled_all, filled_more}
use Rattle.hand_rons.proofs.read_all.Goals as goal

pub loop-i-preserved : goal.loop-i-preserved
loop-i-preserved c =
    let a = c.args in
    let w = c.loop-i in
    let left : w.i < a.number = c.loop-i-test.true in
    let next : a.number - (w.i + 1) ≡ (a.number - w.i) - 1 = omega arith in
    rw (c.from.ensures, next)
    (filled_more a.number a.s.now w.hands (a.number - w.i) w.i w.at w.invariant _ c.in_ok-first.ensures refl (omega arith) (omega (arith, c.requires)))

pub returns-clause-refusal_value : goal.returns-clause-refusal_value
returns-clause-refusal_value c =
    let a = c.args in
    let w = c.loop-i in
    (filled_all a.number a.s.now w.hands _ w.i w.at w.invariant (omega (arith, c.loop-i-test.false))).0

pub returns-clause-s_value : goal.returns-clause-s_value
returns-clause-s_value c =
    let a = c.args in
    let w = c.loop-i in
    (filled_all a.number a.s.now w.hands _ w.i w.at w.invariant (omega (arith, c.loop-i-test.false))).1
