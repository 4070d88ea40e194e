-- What the places from this one on give is left to keep.
use Rattle.std.proofs.Common.{◌≡◌, false, ◌+◌}
use Rattle.reading.specs.search.Readings.{placed_at, placed}
use Rattle.reading.specs.search.Folded.{folded, ranged}
use Rattle.score_best.specs.search.HandCommon.{worth_in}
use Rattle.score_best.specs.search.Best.{keep_better}
use Rattle.score_search.proofs.places.Given as goal

abbrev pub invariant-loop-place : goal.invariant-loop-place
invariant-loop-place l =
    (l.b.done ≡ false)
    × (ranged (keep_better (worth_in l.h)) (placed_at l.win l.r.pair l.r.groups) (l.size + 1) l.place l.b
    ≡ folded (keep_better (worth_in l.h)) l.fn.best (placed l.size l.win l.r.pair l.r.groups))
