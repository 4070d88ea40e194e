use Rattle.hand.specs.Held.{wrong_held}
use Rattle.hand_refusals.proofs.wrong_held.Goals as goal

pub returns : goal.returns
unfolding wrong_held
returns c = rw (c.chi_without_run.ensures, c.tile_over_33.ensures)
