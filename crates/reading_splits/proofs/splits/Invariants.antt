-- Of the kinds gone over that can be the pair none leaves groups.
use Rattle.std.proofs.Common.{◌≡◌, false, ℕ, ◌%◌, ◌≤◌, ◌<◌, get_or}
use Rattle.reading.specs.search.Readings.{less}
use Rattle.reading.specs.search.Pairs.{Among}
use Rattle.reading_splits.specs.search.SplitsInto.{splits_into}
use Rattle.reading_splits.proofs.splits.Given as goal

abbrev pub invariant-loop-k : goal.invariant-loop-k
invariant-loop-k l =
    let all = l.initial.k-iterator in
    let left = l.k-iterator in
    (left.last ≡ all.last) × (all.last < 34) × (all.first ≤ left.first) × (left.first % 3 ≡ all.first % 3)
    × ((j : ℕ) → Among all.first all.last j → j < left.first → 2 ≤ get_or l.t j 0 → splits_into l.n false (less l.t j 2) ≡ false)
