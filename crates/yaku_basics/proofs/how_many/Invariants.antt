-- The loop of `yaku_basics::how_many`: those of the codes so far.
use Rattle.std.proofs.Common.{◌≡◌, count_by, take}
use Rattle.yaku_basics.specs.Tests.{has}
use Rattle.yaku_basics.proofs.how_many.Given as goal

abbrev pub invariant-loop-c : goal.invariant-loop-c
invariant-loop-c l = l.n ≡ count_by (has l.g) (take l.c-index l.codes)
