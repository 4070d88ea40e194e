-- `points_value::han_each` meets its contract.
use borrow.Author.Rules.{rules}
use Rattle.points_value.proofs.han_each.Statement.{statement}
use Rattle.points_value.proofs.han_each.Tie as tie

pub han_each_spec : {M : Type 1} → statement M
han_each_spec = tie.close (tie.spec (λ c κs. search rules) (λ c. c.han_each.ensures))
