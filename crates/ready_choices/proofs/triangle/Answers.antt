-- The products stay small.
use Rattle.std.proofs.Common.{refl, arith}
use Rattle.ready_choices.specs.search.Moves.{triangle}
use Rattle.ready_choices.proofs.laws.State.{product_low}
use Rattle.ready_choices.proofs.triangle.Goals as goal

pub returns : goal.returns
unfolding triangle
returns c = (refl, omega (arith, product_low _ c.requires))
