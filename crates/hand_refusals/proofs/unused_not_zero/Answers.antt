use Rattle.hand.specs.Held.{unused_not_zero}
use Rattle.hand_refusals.proofs.unused_not_zero.Goals as goal

pub returns : goal.returns
unfolding unused_not_zero
returns c = rw (c.zero_from.ensures, c.others.ensures.0)
