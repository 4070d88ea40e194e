use Rattle.std.proofs.Common.{rules}
use Rattle.position.specs.Booking.{pao}
use Rattle.position.proofs.laws.Each.{pao_goes_on}
use Rattle.game_bookings.proofs.pao.Goals as goal

pub returns : goal.returns
returns c =
    let a = c.args in
    c.book.ensures (pao a.holder a.feeder a.yaku) (pao_goes_on a.g.now a.holder a.feeder a.yaku) (λ m p. search rules)
