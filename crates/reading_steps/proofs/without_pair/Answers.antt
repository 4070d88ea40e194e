-- The tally with one kind two less is `less`.
use Rattle.std.proofs.Common.{refl}
use Rattle.reading.specs.search.Readings.{less}
use Rattle.reading_steps.proofs.without_pair.Goals as goal

pub returns : goal.returns
unfolding less
returns c = refl
