-- The state after the choice.
use Rattle.std.proofs.Common.{◌+◌, ◌-◌, arith}
use Rattle.ready_choices.specs.search.Made.{takes}
use Rattle.ready_choices.proofs.Begun.taking.Goals as goal

pub returns : goal.returns
unfolding takes
returns c = rw (c.state.ensures (c.args.self.groups - (c.args.x + c.args.y)) (omega arith))
