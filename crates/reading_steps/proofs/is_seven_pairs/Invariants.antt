-- The loop has found each kind so far held twice or not at all, and counted those held.
use Rattle.std.proofs.Common.{◌||◌, eqb, leb, get_or}
use Rattle.reading.proofs.laws.Counted.{Counted}
use Rattle.reading_steps.proofs.is_seven_pairs.Given as goal

abbrev pub invariant-loop-n : goal.invariant-loop-n
invariant-loop-n l = Counted (λ k. eqb (get_or l.fn.t k 0) 0 || eqb (get_or l.fn.t k 0) 2) (λ k. leb 1 (get_or l.fn.t k 0)) l.n-index l.kinds
