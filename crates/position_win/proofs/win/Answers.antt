use Rattle.std.specs.Prelude.{Err}
use Rattle.std.proofs.Common.{◌≡◌, sym, ◌∙◌, arith, rules}
use Rattle.refusals.specs.Refusal.{number}
use Rattle.refusals.proofs.Numbers.{number_above}
use Rattle.position.specs.Booking.{result, win}
use Rattle.position.proofs.laws.Form.{open_of, few_sticks}
use Rattle.position.proofs.laws.Sums.{gifts_small}
use Rattle.position.proofs.laws.Refusals.{refused_moves, accepted_moves, win_shut, win_by}
use Rattle.position_win.proofs.laws.Settling.{win_applied}
use Rattle.position_win.proofs.win.Goals as goal

pub returns-then-not_open : goal.returns-then-not_open
returns-then-not_open c =
    let z = c.args in
    refused_moves z.p (result (win z.s.now)) 9 (win_shut z.p z.s.now (sym c.not_open.ensures ∙ c.if-not_open.true)) (omega arith)

pub settle-requires : goal.settle-requires
settle-requires c =
    let o = open_of c.args.p (sym c.not_open.ensures ∙ c.if-not_open.false) in
    (o, omega (arith, o.form.counter, o.hands), few_sticks c.args.p o.form)

pub returns-in_err-t : goal.returns-in_err-t
returns-in_err-t c =
    let z = c.args in
    let m = c.in_err-t.field-0.0 in
    let shut = sym c.not_open.ensures ∙ c.if-not_open.false in
    let same : c.from_residual.result ≡ Err m = search rules in
    rw same (refused_moves z.p (result (win z.s.now)) (number m) (win_by z.p z.s.now shut ∙ sym c.in_err-t.ensures.0) (number_above m))

pub counter_after-requires : goal.counter_after-requires
counter_after-requires c =
    let o = open_of c.args.p (sym c.not_open.ensures ∙ c.if-not_open.false) in
    omega (arith, o.form.counter, o.hands)

pub finish-after-requires : goal.finish-after-requires
finish-after-requires c =
    (open_of c.args.p (sym c.not_open.ensures ∙ c.if-not_open.false), gifts_small c.in_ok-t.t.gives c.in_ok-t.ensures.1.2)

pub returns : goal.returns
returns c =
    let z = c.args in
    let shut = sym c.not_open.ensures ∙ c.if-not_open.false in
    let given = c.in_ok-t.ensures in
    accepted_moves z.p (result (win z.s.now)) c.finish-after.result
    (win_by z.p z.s.now shut ∙ sym given.0)
    (c.finish-after.ensures
    ∙ win_applied z.p z.s.now c.in_ok-t.t.gives c.in_ok-t.t.winner c.counter_after.result
    given.1.1 given.1.0 c.counter_after.ensures)
