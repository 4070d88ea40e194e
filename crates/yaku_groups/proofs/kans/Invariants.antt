-- The loop of `yaku_groups::kans`: those of the ways so far.
use Rattle.std.proofs.Common.{◌≡◌, count_by, take, leb}
use Rattle.yaku_groups.proofs.kans.Given as goal

abbrev pub invariant-loop-way : goal.invariant-loop-way
invariant-loop-way l = l.n ≡ count_by (leb 2) (take l.way-index l.way-items)
