-- The first s places have their values.
use Rattle.std.proofs.Common.{◌≡◌, ℕ, ◌<◌, length, get_or}
use Rattle.ready_choices.specs.search.Moves.{most, worth}
use Rattle.ready_nearest.specs.search.Found.{after}
use Rattle.ready_nearest.proofs.Kind.row.Given as goal

abbrev pub invariant-loop-s : goal.invariant-loop-s
invariant-loop-s l = (length l.v-items ≡ 80)
    × ((j : ℕ) → j < l.s → get_or l.v-items j 0 ≡ most 10 (worth l.self.have l.self.room (after l.self.later.now) l.self.kind j))
