-- `score::won_of` meets its contract.
use borrow.Author.Rules.{rules}
use Rattle.score.specs.Named.{won_of}
use Rattle.score.proofs.won_of.Statement.{statement}
use Rattle.score.proofs.won_of.Tie as tie

pub won_of_spec : {M : Type 1} → statement M
unfolding won_of
won_of_spec =
    tie.close
    (tie.spec (λ c κs. search rules) (λ c. search rules) (λ c. search rules) (λ c. search rules) (λ c. search rules) (λ c κs. search rules)
    (λ c.
    let closed = c.before in
    let own = closed.before.before in
    rw (closed.is_closed.ensures, own.before.with_melds-t.ensures)))
