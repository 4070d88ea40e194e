use Rattle.game.specs.Game.{game_out_of_form}
use Rattle.game_bookings.proofs.out_of_form.Goals as goal

pub returns : goal.returns
unfolding game_out_of_form
returns c = rw (c.out_of_form-2.ensures, c.out_of_form.ensures)
