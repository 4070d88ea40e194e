use Rattle.std.proofs.Common.{◌≡◌, Err, sym, ◌∙◌, lt-ltb, rules, arith}
use Rattle.refusals.proofs.Numbers.{number_above}
use Rattle.game_bookings.proofs.laws.Books.{correction_out, correction_none, correction_refused, correction_accepted}
use Rattle.game_bookings.proofs.correct.Goals as goal

pub returns-then-out_of_form : goal.returns-then-out_of_form
returns-then-out_of_form g c r m = correction_out c.args.g r (sym c.out_of_form.ensures ∙ c.if-out_of_form.true)

pub returns-then-g-eq0 : goal.returns-then-g-eq0
returns-then-g-eq0 g c r m = correction_none c.args.g r (sym c.out_of_form.ensures ∙ c.if-out_of_form.false) (rw c.if-g-eq0.true)

pub returns-in_err-now : goal.returns-in_err-now
returns-in_err-now g c r m =
    let same : c.from_residual.result ≡ Err c.in_err-now.field-0.0 = search rules in
    let p = m _ c.in_err-now.ensures in
    rw same (correction_refused c.args.g r (sym c.out_of_form.ensures ∙ c.if-out_of_form.false) (lt-ltb 0 c.args.g.correctable (omega (arith, c.if-g-eq0.false))) _ p.0
    (number_above c.in_err-now.field-0.0))

pub returns : goal.returns
returns g c r m =
    correction_accepted c.args.g r (sym c.out_of_form.ensures ∙ c.if-out_of_form.false) (lt-ltb 0 c.args.g.correctable (omega (arith, c.if-g-eq0.false)))
    c.in_ok-now.now (m _ c.in_ok-now.ensures)
