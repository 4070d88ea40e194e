use Rattle.std.proofs.Common.{sym, ◌∙◌, true, false, arith}
use Rattle.position.specs.Booking.{result, draw}
use Rattle.position.proofs.laws.Form.{open_of}
use Rattle.position.proofs.laws.Refusals.{refused_moves, accepted_moves, draw_bits, draw_by}
use Rattle.position_moves.proofs.laws.Steps.{fault_applied, draw_applied}
use Rattle.position_bookings.proofs.draw.Goals as goal

pub returns-then-bits-gt15 : goal.returns-then-bits-gt15
returns-then-bits-gt15 c =
    let a = c.args in
    refused_moves a.p (result (draw a.bits)) 8 (draw_bits a.p a.bits c.if-bits-gt15.true) (omega arith)

pub returns-then-not_open : goal.returns-then-not_open
returns-then-not_open c =
    let a = c.args in
    refused_moves a.p (result (draw a.bits)) 9 (draw_by a.p a.bits c.if-bits-gt15.false true (sym c.not_open.ensures ∙ c.if-not_open.true)) (omega arith)

pub penalise-requires : goal.penalise-requires
penalise-requires c = open_of c.args.p (sym c.not_open.ensures ∙ c.if-not_open.false)

pub returns-then-any_true : goal.returns-then-any_true
returns-then-any_true c =
    let a = c.args in
    accepted_moves a.p (result (draw a.bits)) c.penalise.result (draw_by a.p a.bits c.if-bits-gt15.false false (sym c.not_open.ensures ∙ c.if-not_open.false))
    (c.penalise.ensures
    ∙ fault_applied a.p a.bits c.ready-b.result c.at_fault-f.result c.ready-b.ensures c.at_fault-f.ensures (sym c.any_true.ensures ∙ c.if-any_true.true))

pub bounds-b-from : goal.bounds-b-from
bounds-b-from c =
    let o = open_of c.args.p (sym c.not_open.ensures ∙ c.if-not_open.false) in
    omega (arith, o.form.dealer, c.from.ensures)

pub overflow_add-p : goal.overflow_add-p
overflow_add-p c =
    let o = open_of c.args.p (sym c.not_open.ensures ∙ c.if-not_open.false) in
    omega (arith, o.form.counter, o.hands)

pub finish-requires : goal.finish-requires
finish-requires c = (open_of c.args.p (sym c.not_open.ensures ∙ c.if-not_open.false), c.shares.ensures.1)

pub returns : goal.returns
returns c =
    let a = c.args in
    let shut = sym c.not_open.ensures ∙ c.if-not_open.false in
    accepted_moves a.p (result (draw a.bits)) c.finish.result (draw_by a.p a.bits c.if-bits-gt15.false false shut)
    (rw c.from.ensures at c.finish.ensures
    ∙ draw_applied a.p a.bits c.ready-b.result c.at_fault-f.result c.ready-b.ensures c.at_fault-f.ensures (sym c.any_true.ensures ∙ c.if-any_true.false)
    (open_of a.p shut).form.dealer c.shares.result c.shares.ensures.0)
