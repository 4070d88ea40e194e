-- The places so far are joined, and the others have the melds' groups.
use Rattle.std.proofs.Common.{◌≡◌, ℕ, ◌≤◌, ◌<◌, cond, eqb, length, get_or}
use Rattle.score_best.proofs.joined.Given as goal

abbrev pub invariant-loop-place : goal.invariant-loop-place
invariant-loop-place l =
    (length l.out ≡ 4)
    × ((k : ℕ) → k < l.place → get_or l.out k 0 ≡ cond (eqb (get_or l.fn.groups k 0) 68) (get_or l.fn.melds k 0) (get_or l.fn.groups k 0))
    × ((k : ℕ) → l.place ≤ k → get_or l.out k 0 ≡ get_or l.fn.melds k 0)
