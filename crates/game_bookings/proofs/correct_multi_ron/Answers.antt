use Rattle.std.proofs.Common.{rules}
use Rattle.position.specs.Booking.{multi_ron}
use Rattle.game_bookings.proofs.correct_multi_ron.Goals as goal

pub returns : goal.returns
returns c = c.correct.ensures (multi_ron c.args.number c.args.s.now) (λ m p. search rules)
