-- The products stay small.
use Rattle.std.proofs.Common.{refl, arith}
use Rattle.ready_choices.specs.search.Moves.{tetra}
use Rattle.ready_choices.proofs.laws.State.{product_low}
use Rattle.ready_choices.proofs.tetra.Goals as goal

pub returns : goal.returns
unfolding tetra
returns c = (refl, omega (arith, product_low _ c.requires))
