-- `score_best::beats` meets its contract.
use mathlib.Core.Path.{refl}
use Rattle.score_best.specs.search.Best.{beats}
use Rattle.score_best.proofs.beats.Statement.{statement}
use Rattle.score_best.proofs.beats.Tie as tie

pub beats_spec : {M : Type 1} → statement M
unfolding beats
beats_spec = tie.close (tie.spec (λ c. refl))
