use Rattle.std.proofs.Common.{sym, ◌∙◌, true, false, eqb, arith}
use Rattle.position.specs.Booking.{result, chombo}
use Rattle.position.specs.Ledger.{effect_of}
use Rattle.position.proofs.laws.Form.{open_of}
use Rattle.position.proofs.laws.Refusals.{refused_moves, accepted_moves, chombo_seat, chombo_by}
use Rattle.position_moves.proofs.laws.Steps.{same_chombo}
use Rattle.position_bookings.proofs.chombo.Goals as goal

pub returns-then-seat-gt3 : goal.returns-then-seat-gt3
returns-then-seat-gt3 c =
    let a = c.args in
    refused_moves a.p (result (chombo a.seat)) 8 (chombo_seat a.p a.seat c.if-seat-gt3.true) (omega arith)

pub returns-then-not_open : goal.returns-then-not_open
returns-then-not_open c =
    let a = c.args in
    refused_moves a.p (result (chombo a.seat)) 9 (chombo_by a.p a.seat c.if-seat-gt3.false true (sym c.not_open.ensures ∙ c.if-not_open.true)) (omega arith)

pub penalise-requires : goal.penalise-requires
penalise-requires c = open_of c.args.p (sym c.not_open.ensures ∙ c.if-not_open.false)

pub returns : goal.returns
unfolding effect_of
returns c =
    let a = c.args in
    accepted_moves a.p (result (chombo a.seat)) c.penalise.result (chombo_by a.p a.seat c.if-seat-gt3.false false (sym c.not_open.ensures ∙ c.if-not_open.false))
    (c.penalise.ensures ∙ same_chombo a.p c.only.result (λ i. eqb i a.seat) c.only.ensures)
