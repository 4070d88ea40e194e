use Rattle.std.proofs.Common.{◌-◌, length}
use Rattle.log_walk.proofs.laws.Fill.{Kept}
use Rattle.log_text.proofs.lines.Given as goal

abbrev pub invariant-loop-step : goal.invariant-loop-step
invariant-loop-step l = Kept l.s l.fn.w l.fn.buf l.buf l.walk l.written

abbrev pub decreases-loop-step : goal.decreases-loop-step
decreases-loop-step l = length l.s - l.walk.at
