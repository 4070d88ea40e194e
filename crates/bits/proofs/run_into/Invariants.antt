use Rattle.std.proofs.Common.{◌≡◌, ◌+◌, ◌-◌, ◌*◌, ◌≤◌, drop, replicate}
use Rattle.std.proofs.lemmas.List.Edits.{sets}
use Rattle.bits.specs.Bits.{unpack, bits_of}
use Rattle.bits.proofs.run_into.Given as goal

abbrev pub invariant-loop-i : goal.invariant-loop-i
invariant-loop-i l =
    (l.i ≤ l.n) × (l.o + l.w * (l.n - l.i) ≡ l.fn.at + l.w * l.n)
    × (sets l.out l.i (unpack (replicate (l.n - l.i) l.w) (drop l.o (bits_of l.s))) ≡ sets l.fn.out 0 (unpack (replicate l.n l.w) (drop l.fn.at (bits_of l.s))))

abbrev pub decreases-loop-i : goal.decreases-loop-i
decreases-loop-i l = l.n - l.i

abbrev pub invariant-loop-j : goal.invariant-loop-j
invariant-loop-j l =
    (l.o + l.w * (l.n - l.j) ≡ l.fn.at + l.w * l.n)
    × (sets l.out l.j (unpack (replicate (l.n - l.j) l.w) (drop l.o (bits_of l.s))) ≡ sets l.fn.out 0 (unpack (replicate l.n l.w) (drop l.fn.at (bits_of l.s))))
