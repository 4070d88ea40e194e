use Rattle.hand.specs.Refusals.{wrong_fields}
use Rattle.hand_refusals.proofs.wrong_fields.Goals as goal

pub returns : goal.returns
unfolding wrong_fields
returns c = rw (c.wrong_discarder.ensures, c.wrong_held.ensures)
