-- What the kinds that are left, and then the shapes without groups, give is left to keep.
use Rattle.std.proofs.Common.{◌≡◌, false, ◌≤◌, ◌<◌, ◌%◌}
use Rattle.reading.specs.search.Readings.{paired}
use Rattle.reading.specs.search.Folded.{ranged}
use Rattle.score_best.specs.search.HandCommon.{worth_in}
use Rattle.score_best.specs.search.Best.{keep_better}
use Rattle.score_search.proofs.search_for.Given as goal

abbrev pub invariant-loop-k : goal.invariant-loop-k
invariant-loop-k l =
    let all = l.initial.k-iterator in
    let left = l.k-iterator in
    (left.last ≡ all.last) × (all.last < 34) × (all.first ≤ left.first) × (left.first % 3 ≡ all.first % 3) × (l.b.done ≡ false)
    × (ranged (keep_better (worth_in l.h)) (paired l.t l.m l.win) 34 left.first l.b ≡ ranged (keep_better (worth_in l.h)) (paired l.t l.m l.win) 34 0 l.initial.b)
