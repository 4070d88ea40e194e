use Rattle.std.proofs.Common.{refl}
use Rattle.position.specs.Ledger.{fresh}
use Rattle.position_bookings.proofs.fresh_position.Goals as goal

pub returns : goal.returns
unfolding fresh
returns c = refl
