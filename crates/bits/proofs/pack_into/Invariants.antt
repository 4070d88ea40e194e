use Rattle.std.proofs.Common.{◌≡◌, ◌+◌, drop}
use Rattle.std.proofs.lemmas.List.Edits.{sets}
use Rattle.bits.specs.Bits.{pack, width_of}
use Rattle.bits.proofs.pack_into.Given as goal

abbrev pub invariant-loop-i : goal.invariant-loop-i
invariant-loop-i l =
    (l.o + width_of (drop l.i l.ws) ≡ l.fn.at + width_of l.ws)
    × (sets l.b l.o (pack (drop l.i l.ws) (drop l.i l.vs)) ≡ sets l.fn.b l.fn.at (pack l.ws l.vs))
