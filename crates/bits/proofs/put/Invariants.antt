use Rattle.std.proofs.Common.{◌≡◌, ◌+◌, ◌-◌}
use Rattle.std.proofs.lemmas.List.Edits.{sets}
use Rattle.bits.specs.Bits.{digits}
use Rattle.bits.proofs.put.Given as goal

abbrev pub invariant-loop-i : goal.invariant-loop-i
invariant-loop-i l =
    sets l.b (l.at + l.i) (digits (l.n - l.i) l.v) ≡ sets l.fn.b l.fn.at (digits l.fn.n l.v)
