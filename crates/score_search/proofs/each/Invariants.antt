-- What the splittings from this one on give is left to keep.
use Rattle.std.proofs.Common.{◌≡◌, false, [], length, get_or}
use Rattle.reading.specs.search.Readings.{placed}
use Rattle.reading.specs.search.Folded.{ranged}
use Rattle.score_best.specs.search.HandCommon.{worth_in}
use Rattle.score_best.specs.search.Best.{keep_better}
use Rattle.score_search.proofs.each.Given as goal

abbrev pub invariant-loop-groups : goal.invariant-loop-groups
invariant-loop-groups l =
    (l.b.done ≡ false)
    × (ranged (keep_better (worth_in l.h)) (λ i. placed l.size l.win l.pair (get_or l.found i [])) (length l.found) l.groups-index l.b
    ≡ ranged (keep_better (worth_in l.h)) (λ i. placed l.size l.win l.pair (get_or l.found i [])) (length l.found) 0 l.fn.best)
