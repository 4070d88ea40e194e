use Rattle.std.specs.Result.{result_unwrap_or}
use Rattle.std.proofs.Common.{rules, ◌≡◌, Err, sym, ◌∙◌, true, false, arith}
use Rattle.refusals.specs.Refusal.{number, refusal_in}
use Rattle.refusals.proofs.Numbers.{number_above}
use Rattle.hand_rons.specs.Records.{records_of}
use Rattle.hand_rons.proofs.laws.OneTile.{all_read}
use Rattle.hand_rons.proofs.laws.Hands.{room_for}
use Rattle.position.specs.Booking.{result, multi_ron}
use Rattle.position.proofs.laws.Form.{open_of}
use Rattle.position.proofs.laws.Refusals.{refused_moves, multi_ron_shut, multi_ron_number, multi_ron_unreadable, multi_ron_by}
use Rattle.position_multi_ron.proofs.laws.Settled.{all_bounds, some_few, rons_booked}
use Rattle.position_multi_ron.proofs.multi_ron.Goals as goal

pub returns-then-not_open : goal.returns-then-not_open
returns-then-not_open c =
    let a = c.args in
    (refused_moves a.p (result (multi_ron a.number a.s.now)) 9
    (multi_ron_shut a.p a.number a.s.now (sym c.not_open.ensures ∙ c.if-not_open.true)) (omega arith))

pub returns-then-number : goal.returns-then-number
returns-then-number c =
    let a = c.args in
    (refused_moves a.p (result (multi_ron a.number a.s.now)) 17
    (multi_ron_number a.p a.number a.s.now (sym c.not_open.ensures ∙ c.if-not_open.false) c.if-number.true) (omega arith))

pub returns-in_err-hands : goal.returns-in_err-hands
returns-in_err-hands c =
    let a = c.args in
    let r = c.in_err-hands.field-0.0 in
    let l : c.from_residual.result ≡ Err r = search rules in
    rw l (refused_moves a.p (result (multi_ron a.number a.s.now)) (number r)
    (multi_ron_unreadable a.p a.number a.s.now (sym c.not_open.ensures ∙ c.if-not_open.false) c.if-number.false (number r)
    c.in_err-hands.ensures.refusal_value (number_above r))
    (number_above r))

pub returns-then-not_on_one_tile : goal.returns-then-not_on_one_tile
returns-then-not_on_one_tile c =
    let a = c.args in
    let rs = records_of a.number a.s.now in
    (refused_moves a.p (result (multi_ron a.number a.s.now)) 17
    (multi_ron_by a.p a.number a.s.now (sym c.not_open.ensures ∙ c.if-not_open.false) c.if-number.false (sym c.in_ok-hands.ensures.refusal_value) true
    (sym (c.not_on_one_tile.ensures rs c.in_ok-hands.ensures.s_value) ∙ c.if-not_on_one_tile.true))
    (omega arith))

pub book_rons-requires : goal.book_rons-requires
book_rons-requires c =
    let a = c.args in
    let rs = records_of a.number a.s.now in
    let e = c.in_ok-hands.ensures.s_value in
    let n = some_few a.number c.if-number.false in
    let hs = c.in_ok-hands.hands in (
      open_of a.p (sym c.not_open.ensures ∙ c.if-not_open.false),
      n.0,
      n.1,
      all_bounds a.number hs (room_for a.number hs a.s.now e) rs e (all_read rs (sym c.in_ok-hands.ensures.refusal_value)),
    )

pub returns : goal.returns
returns c =
    let a = c.args in
    let rs = records_of a.number a.s.now in
    let e = c.in_ok-hands.ensures.s_value in
    let read = sym c.in_ok-hands.ensures.refusal_value in
    rons_booked a.p a.number a.s.now (refusal_in c.book_rons.result) (result_unwrap_or c.book_rons.result a.p)
    (multi_ron_by a.p a.number a.s.now (sym c.not_open.ensures ∙ c.if-not_open.false) c.if-number.false read false
    (sym (c.not_on_one_tile.ensures rs e) ∙ c.if-not_on_one_tile.false))
    (c.book_rons.ensures a.s.now read e)
