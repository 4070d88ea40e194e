use Rattle.std.proofs.Common.{rules}
use Rattle.position.specs.Booking.{win}
use Rattle.game_bookings.proofs.win.Goals as goal

pub returns : goal.returns
returns c = c.finish.ensures (win c.args.s.now) (λ m p. search rules)
