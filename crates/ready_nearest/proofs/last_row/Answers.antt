-- The three places are written.
use Rattle.std.proofs.Common.{refl}
use Rattle.ready_nearest.proofs.laws.Table.{last_row}
use Rattle.ready_nearest.proofs.last_row.Goals as goal

pub returns : goal.returns
returns c = λ t d. last_row t d _ refl
