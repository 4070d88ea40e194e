-- The triples of a sum under n - 1 are those under n without those of the sum n - 1.
use Rattle.std.proofs.Common.{◌≡◌, arith}
use Rattle.ready_choices.proofs.laws.State.{tetra_less}
use Rattle.ready_choices.proofs.smaller.Goals as goal

pub overflow_sub-result : goal.overflow_sub-result
overflow_sub-result c = omega (arith, tetra_less c.args.n c.requires.0 (omega arith), c.tetra-2.ensures.0, c.triangle.ensures.0)

pub returns : goal.returns
returns c =
    let q : c.args.y ≡ 1 = omega arith in (
      rw q (omega (arith, tetra_less c.args.n c.requires.0 (omega arith), c.tetra-2.ensures.0, c.triangle.ensures.0)),
      omega (arith, c.tetra-2.ensures.1),
    )
