use Rattle.std.proofs.Common.{◌≡◌, ◌+◌, drop}
use Rattle.std.proofs.lemmas.List.Edits.{sets}
use Rattle.bits.specs.Bits.{unpack, width_of}
use Rattle.bits.proofs.unpack_into.Given as goal

abbrev pub invariant-loop-i : goal.invariant-loop-i
invariant-loop-i l =
    (l.o + width_of (drop l.i l.ws) ≡ l.fn.at + width_of l.ws)
    × (sets l.out l.i (unpack (drop l.i l.ws) (drop l.o l.b)) ≡ sets l.fn.out 0 (unpack l.ws (drop l.fn.at l.b)))
