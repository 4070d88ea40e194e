-- `score_readings::refused` meets its contract.
use borrow.Author.Rules.{rules}
use Rattle.score_readings.proofs.refused.Statement.{statement}
use Rattle.score_readings.proofs.refused.Tie as tie

pub refused_spec : {M : Type 1} → statement M
refused_spec = tie.close (tie.spec (λ c κs. search rules) (λ c. rw c.base_alone-items.ensures))
