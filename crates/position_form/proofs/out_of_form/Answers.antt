use Rattle.position.specs.Ledger.{total_of, out_of_form}
use Rattle.position_form.proofs.out_of_form.Goals as goal

pub returns : goal.returns
unfolding out_of_form total_of
returns c = rw (c.from.ensures, c.count_true.ensures.0, c.set_marks.ensures, c.any_wrong.ensures, c.any_low.ensures, c.balanced.ensures)
