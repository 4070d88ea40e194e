-- The loop has found each yaochu kind so far held once or twice and no other kind, and counted those held twice.
use Rattle.std.proofs.Common.{cond, ◌||◌, eqb, get_or}
use Rattle.tiles.specs.Kinds.{is_yaochu}
use Rattle.reading.proofs.laws.Counted.{Counted}
use Rattle.reading_steps.proofs.is_orphans.Given as goal

abbrev pub invariant-loop-k : goal.invariant-loop-k
invariant-loop-k l = Counted (λ k. cond (is_yaochu k) (eqb (get_or l.fn.t k 0) 1 || eqb (get_or l.fn.t k 0) 2) (eqb (get_or l.fn.t k 0) 0)) (λ k. eqb (get_or l.fn.t k 0) 2) l.k l.twice
