use Rattle.std.proofs.Common.{rules}
use Rattle.position.specs.Booking.{win}
use Rattle.game_bookings.proofs.correct_win.Goals as goal

pub returns : goal.returns
returns c = c.correct.ensures (win c.args.s.now) (λ m p. search rules)
