-- What is left to test gives the whole.
use Rattle.std.proofs.Common.{◌≡◌, ◌-◌, drop}
use Rattle.claim_writer.specs.search.Bytes.{ordered}
use Rattle.claim_writer.proofs.are_ordered.Given as goal

abbrev pub invariant-loop-i : goal.invariant-loop-i
invariant-loop-i l = ordered (l.n - l.i) l.low (drop l.i l.fn.g) ≡ ordered l.n 0 l.fn.g
