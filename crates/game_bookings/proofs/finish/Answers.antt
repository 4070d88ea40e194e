use Rattle.position.specs.Booking.{result}
use Rattle.position.proofs.laws.Each.{result_finishes}
use Rattle.game_bookings.proofs.finish.Goals as goal

pub returns : goal.returns
returns g c r m = c.book.ensures (result r) (result_finishes c.args.g.now r) m
