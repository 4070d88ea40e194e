-- The tiles of the kinds below k, and j of k, are written.
use Rattle.std.proofs.Common.{◌≡◌, ◌<◌, get_or}
use Rattle.ready.specs.search.Written.{Written}
use Rattle.ready.proofs.written.Given as goal

abbrev pub invariant-loop-k : goal.invariant-loop-k
invariant-loop-k l = Written l.tally l.k 0 l.i l.tiles

abbrev pub invariant-loop-j : goal.invariant-loop-j
invariant-loop-j l = (l.k < 34) × (l.j-end ≡ get_or l.tally l.k 0) × Written l.tally l.k l.j l.i l.tiles
