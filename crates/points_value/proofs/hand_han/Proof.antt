-- `points_value::hand_han` meets its contract.
use borrow.Author.Rules.{rules}
use Rattle.points_value.proofs.hand_han.Statement.{statement}
use Rattle.points_value.proofs.hand_han.Tie as tie

pub hand_han_spec : {M : Type 1} → statement M
hand_han_spec =
    tie.close
    (tie.spec (λ c. (rw c.if-q.true, search rules)) (λ c κs. search rules)
    (λ c. (rw c.before.if-q.false c.placed.ensures.0, c.placed.ensures.1)))
