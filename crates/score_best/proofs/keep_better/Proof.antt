-- `score_best::keep_better` meets its contract.
use Rattle.score_best.proofs.keep_better.Statement.{statement}
use Rattle.score_best.proofs.keep_better.Tie as tie

pub keep_better_spec : {M : Type 1} → statement M
keep_better_spec =
    tie.close
    (tie.spec (λ c κs. c.requires.0) (λ c κs. (c.common_of.ensures, c.before.requires.1, c.before.requires.2)) (λ c. c.keep_better_at.ensures))
