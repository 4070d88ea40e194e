use Rattle.std.proofs.Common.{sym, ◌∙◌, true, false, arith}
use Rattle.position.specs.Booking.{pao}
use Rattle.position.proofs.laws.Form.{open_of}
use Rattle.position.proofs.laws.Refusals.{refused_moves, accepted_moves, pao_seat, pao_shut, pao_by}
use Rattle.position.proofs.laws.Pao.{seats_small, right_pao}
use Rattle.position_bookings.proofs.pao.Goals as goal

pub returns-then-holder-feeder : goal.returns-then-holder-feeder
returns-then-holder-feeder c =
    let a = c.args in
    refused_moves a.p (pao a.holder a.feeder a.yaku) 8 (pao_seat a.p a.holder a.feeder a.yaku c.if-holder-feeder.true) (omega arith)

pub returns-then-not_open : goal.returns-then-not_open
returns-then-not_open c =
    let a = c.args in
    refused_moves a.p (pao a.holder a.feeder a.yaku) 9
    (pao_shut a.p a.holder a.feeder a.yaku c.if-holder-feeder.false (sym c.not_open.ensures ∙ c.if-not_open.true)) (omega arith)

pub returns-then-wrong_pao : goal.returns-then-wrong_pao
returns-then-wrong_pao c =
    let a = c.args in
    refused_moves a.p (pao a.holder a.feeder a.yaku) 18
    (pao_by a.p a.holder a.feeder a.yaku c.if-holder-feeder.false (sym c.not_open.ensures ∙ c.if-not_open.false) true (sym c.wrong_pao.ensures ∙ c.if-wrong_pao.true))
    (omega arith)

pub name_feeder-requires : goal.name_feeder-requires
name_feeder-requires c =
    let a = c.args in
    let s = seats_small a.holder a.feeder c.if-holder-feeder.false in
    let y = right_pao a.p a.holder a.feeder a.yaku (sym c.wrong_pao.ensures ∙ c.if-wrong_pao.false) in
    (open_of a.p (sym c.not_open.ensures ∙ c.if-not_open.false), s.0, s.1, y.1.0, y.1.1)

pub returns : goal.returns
returns c =
    let a = c.args in
    accepted_moves a.p (pao a.holder a.feeder a.yaku) c.name_feeder.result
    (pao_by a.p a.holder a.feeder a.yaku c.if-holder-feeder.false (sym c.not_open.ensures ∙ c.if-not_open.false) false (sym c.wrong_pao.ensures ∙ c.if-wrong_pao.false))
    c.name_feeder.ensures
