-- `points_value::yaku_han::han` meets its contract.
use borrow.Author.Rules.{rules}
use native.Mathlib.Omega.{arith}
use Rattle.points_value.proofs.laws.Han.{values_apart}
use Rattle.points_value.proofs.yaku_han.han.Statement.{statement}
use Rattle.points_value.proofs.yaku_han.han.Tie as tie

pub han_spec : {M : Type 1} → statement M
han_spec =
    tie.close
    (tie.spec (λ c κs. search rules) (λ c. search rules) (λ c κs. search rules) (λ c. omega arith) (λ c. omega arith)
    (λ c. (rw (values_apart _ _ _) (omega arith), omega arith)))
