-- The place of the parts, from the sum of those that are not groups.
use Rattle.std.proofs.Common.{◌≡◌, ◌+◌, ◌-◌, arith}
use Rattle.ready_choices.specs.search.Moves.{state, place}
use Rattle.ready_choices.proofs.state.Goals as goal

pub returns : goal.returns
unfolding state place
returns c = λ g h.
    let q : c.args.a + c.args.b + g ≡ c.args.n - c.args.y = omega arith in
    rw (q, c.smaller.ensures.0, c.triangle.ensures.0)
