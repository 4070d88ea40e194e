use Rattle.std.proofs.Common.{rules}
use Rattle.position.specs.Booking.{riichi}
use Rattle.position.proofs.laws.Each.{riichi_goes_on}
use Rattle.game_bookings.proofs.riichi.Goals as goal

pub returns : goal.returns
returns c = c.book.ensures (riichi c.args.seat) (riichi_goes_on c.args.g.now c.args.seat) (λ m p. search rules)
