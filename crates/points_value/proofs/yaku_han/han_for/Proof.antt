-- `points_value::yaku_han::han_for` meets its contract.
use borrow.Author.Rules.{rules}
use Rattle.points_value.proofs.yaku_han.han_for.Statement.{statement}
use Rattle.points_value.proofs.yaku_han.han_for.Tie as tie

pub han_for_spec : {M : Type 1} → statement M
han_for_spec =
    tie.close
    (tie.spec (λ c κs. search rules) (λ c κs. search rules)
    (λ c. rw (c.before.before.if-listed.true, c.before.if-closed.true) c.han_of.ensures.0)
    (λ c. rw (c.before.before.if-listed.true, c.before.if-closed.false) c.han_of-else-closed.ensures.0)
    (λ c. rw c.if-listed.false))
