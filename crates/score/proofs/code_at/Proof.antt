-- `score::code_at` meets its contract.
use borrow.Author.Rules.{rules}
use borrow.Author.Tests.{lt-ltb, le-ltb}
use Rattle.score.proofs.code_at.Statement.{statement}
use Rattle.score.proofs.code_at.Tie as tie

pub code_at_spec : {M : Type 1} → statement M
code_at_spec =
    tie.close
    (tie.spec (λ c. search rules) (λ c. search rules) (λ c. search rules) (λ c κs. search rules)
    (λ c. rw (lt-ltb _ _ c.if-i-free.true))
    (λ c. rw (le-ltb _ _ c.before.if-i-free.false) c.meld_code.ensures))
