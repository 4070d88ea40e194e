-- A move that does not fit is worth nothing.
use Rattle.ready_nearest.proofs.laws.Kept.{worth_no_more}
use Rattle.ready_nearest.proofs.Kind.better.Goals as goal

pub returns-then-self-m : goal.returns-then-self-m
returns-then-self-m c = worth_no_more _ _ _ _ _ c.if-self-m.true
