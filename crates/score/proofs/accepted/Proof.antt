-- `score::accepted` meets its contract.
use borrow.Author.Rules.{rules}
use Rattle.score.proofs.accepted.Statement.{statement}
use Rattle.score.proofs.accepted.Tie as tie

pub accepted_spec : {M : Type 1} → statement M
accepted_spec = tie.close (tie.spec (λ c κs. search rules) (λ c. rw c.changes-c.ensures))
