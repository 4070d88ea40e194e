-- Each turn reads the next record.
use Rattle.std.proofs.Common.{◌-◌}
use Rattle.hand_rons.proofs.laws.Hands.{Filled}
use Rattle.hand_rons.proofs.read_all.Given as goal

abbrev pub invariant-loop-i : goal.invariant-loop-i
invariant-loop-i l = Filled l.number l.s l.hands (l.number - l.i) l.i l.at
