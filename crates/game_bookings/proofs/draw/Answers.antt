use Rattle.std.proofs.Common.{rules}
use Rattle.position.specs.Booking.{draw}
use Rattle.game_bookings.proofs.draw.Goals as goal

pub returns : goal.returns
returns c = c.finish.ensures (draw c.args.bits) (λ m p. search rules)
