-- Of the kinds below k the concealed ones are taken away.
use Rattle.std.proofs.Common.{◌≡◌, ℕ, ◌-◌, ◌<◌, ◌≤◌, length, get_or}
use Rattle.ready.proofs.melds_tally.Given as goal

abbrev pub invariant-loop-k : goal.invariant-loop-k
invariant-loop-k l = (length l.n-items ≡ 34) × ((j : ℕ) → j < l.k → get_or l.n-items j 0 ≡ get_or l.initial.n-items j 0 - get_or l.others j 0)
    × ((j : ℕ) → l.k ≤ j → get_or l.n-items j 0 ≡ get_or l.initial.n-items j 0)
