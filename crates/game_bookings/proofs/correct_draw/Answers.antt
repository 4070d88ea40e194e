use Rattle.std.proofs.Common.{rules}
use Rattle.position.specs.Booking.{draw}
use Rattle.game_bookings.proofs.correct_draw.Goals as goal

pub returns : goal.returns
returns c = c.correct.ensures (draw c.args.bits) (λ m p. search rules)
