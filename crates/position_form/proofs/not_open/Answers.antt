use Rattle.position.specs.Ledger.{not_open}
use Rattle.position_form.proofs.not_open.Goals as goal

pub returns : goal.returns
unfolding not_open
returns c = rw c.out_of_form.ensures
