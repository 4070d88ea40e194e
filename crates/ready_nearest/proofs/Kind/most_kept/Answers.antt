-- In a state in which no hand can be, nothing is kept.
use Rattle.std.proofs.Common.{sym, ◌∙◌}
use Rattle.ready_nearest.proofs.laws.Kept.{none_dead}
use Rattle.ready_nearest.proofs.Kind.most_kept.Goals as goal

pub returns-then-not-is_live : goal.returns-then-not-is_live
returns-then-not-is_live c = none_dead _ _ c.args.self.now.later.now _ _ (rw c.in_state-q.ensures at (sym c.is_live.ensures ∙ c.if-not-is_live.true))
