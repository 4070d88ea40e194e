use Rattle.game.specs.Game.{fresh_game}
use Rattle.game_bookings.proofs.fresh_game.Goals as goal

pub returns : goal.returns
unfolding fresh_game
returns c = rw c.fresh_position-now.ensures
