-- Of the suits and honours so far, the kinds found are all that can be the pair.
use Rattle.std.proofs.Common.{◌*◌, ◌<◌}
use Rattle.reading_steps.proofs.Upto.{Upto}
use Rattle.reading_steps.proofs.pairs_in.Given as goal

abbrev pub invariant-loop-s : goal.invariant-loop-s
invariant-loop-s l = (l.p.last < 34) × Upto l.t (9 * l.s) l.p

abbrev pub invariant-loop-k : goal.invariant-loop-k
invariant-loop-k l = (l.p.last < 34) × Upto l.t l.k l.p
