use Rattle.std.proofs.Common.{rules}
use Rattle.position.specs.Booking.{chombo}
use Rattle.game_bookings.proofs.chombo.Goals as goal

pub returns : goal.returns
returns c = c.finish.ensures (chombo c.args.seat) (λ m p. search rules)
