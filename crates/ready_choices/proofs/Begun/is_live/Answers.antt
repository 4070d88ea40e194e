-- Each return is the case that its test says.
use Rattle.std.proofs.Common.{lt-ltb, le-ltb}
use Rattle.ready_choices.specs.search.Moves.{live}
use Rattle.ready_choices.proofs.Begun.is_live.Goals as goal

pub returns-then-self-lt-NO_PAIR_LEFT : goal.returns-then-self-lt-NO_PAIR_LEFT
unfolding live
returns-then-self-lt-NO_PAIR_LEFT c =
    let l = c.if-self-lt-NO_PAIR_LEFT.true in
    rw (lt-ltb _ _ l, c.args.self.runs_a l, c.args.self.runs_b l)

pub returns : goal.returns
unfolding live
returns c = rw (le-ltb _ _ c.if-self-lt-NO_PAIR_LEFT.false)
