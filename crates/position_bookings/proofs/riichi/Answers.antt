use Rattle.std.proofs.Common.{sym, ◌∙◌, true, false, arith}
use borrow.Author.Tests.{lt-ltb, le-ltb}
use Rattle.position.specs.Booking.{riichi}
use Rattle.position.proofs.laws.Form.{open_of}
use Rattle.position.proofs.laws.Refusals.{refused_moves, accepted_moves, riichi_seat, riichi_shut, riichi_twice, riichi_by}
use Rattle.position_bookings.proofs.riichi.Goals as goal

pub returns-then-seat-gt3 : goal.returns-then-seat-gt3
returns-then-seat-gt3 c =
    let a = c.args in
    refused_moves a.p (riichi a.seat) 8 (riichi_seat a.p a.seat c.if-seat-gt3.true) (omega arith)

pub returns-then-not_open : goal.returns-then-not_open
returns-then-not_open c =
    let a = c.args in
    refused_moves a.p (riichi a.seat) 9 (riichi_shut a.p a.seat c.if-seat-gt3.false (sym c.not_open.ensures ∙ c.if-not_open.true)) (omega arith)

pub returns-then-again : goal.returns-then-again
returns-then-again c =
    let a = c.args in
    refused_moves a.p (riichi a.seat) 10
    (riichi_twice a.p a.seat c.if-seat-gt3.false (sym c.not_open.ensures ∙ c.if-not_open.false) (lt-ltb _ _ (rw c.from.ensures at c.if-again.true))) (omega arith)

pub returns-then-lacks_stick : goal.returns-then-lacks_stick
returns-then-lacks_stick c =
    let a = c.args in
    refused_moves a.p (riichi a.seat) 21
    (riichi_by a.p a.seat c.if-seat-gt3.false (sym c.not_open.ensures ∙ c.if-not_open.false) (le-ltb _ _ (rw c.from.ensures at c.if-again.false)) true
    (sym c.lacks_stick.ensures ∙ c.if-lacks_stick.true)) (omega arith)

pub put_stick-requires : goal.put_stick-requires
put_stick-requires c = open_of c.args.p (sym c.not_open.ensures ∙ c.if-not_open.false)

pub returns : goal.returns
returns c =
    let a = c.args in
    accepted_moves a.p (riichi a.seat) c.put_stick.result
    (riichi_by a.p a.seat c.if-seat-gt3.false (sym c.not_open.ensures ∙ c.if-not_open.false) (le-ltb _ _ (rw c.from.ensures at c.if-again.false)) false
    (sym c.lacks_stick.ensures ∙ c.if-lacks_stick.false))
    c.put_stick.ensures
