use Rattle.std.proofs.Common.{◌≡◌, Err, rules}
use Rattle.refusals.proofs.Numbers.{number_above}
use Rattle.position.specs.Ledger.{mark}
use Rattle.game_bookings.proofs.laws.Books.{booking_refused, booking_accepted}
use Rattle.game_bookings.proofs.book.Goals as goal

pub returns-in_err-now : goal.returns-in_err-now
returns-in_err-now g c b e m =
    let same : c.from_residual.result ≡ Err c.in_err-now.field-0.0 = search rules in
    let p = m _ (rw c.checked.ensures at c.in_err-now.ensures) in
    rw same (booking_refused c.args.g b _ p.0 (number_above c.in_err-now.field-0.0))

pub returns : goal.returns
returns g c b e m =
    let marked : c.from.result ≡ mark c.args.finishes = search rules in
    booking_accepted c.args.g b c.in_ok-now.now (m _ (rw c.checked.ensures at c.in_ok-now.ensures)) c.from.result (rw e marked)
