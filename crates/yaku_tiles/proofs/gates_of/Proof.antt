-- `yaku_tiles::gates_of` meets its contract.
use borrow.Author.Rules.{rules}
use native.Mathlib.Nat.{add-zero}
use Rattle.yaku_tiles.proofs.gates_of.Statement.{statement}
use Rattle.yaku_tiles.proofs.gates_of.Tie as tie

pub gates_of_spec : {M : Type 1} → statement M
gates_of_spec =
    tie.close
    (tie.spec
    (λ c. search rules) (λ c. search rules) (λ c. search rules) (λ c. search rules) (λ c. search rules)
    (λ c. search rules) (λ c. search rules) (λ c. search rules) (λ c. search rules) (λ c. search rules)
    (λ c. search rules) (λ c. search rules) (λ c. search rules) (λ c. search rules) (λ c. search rules)
    (λ c. search rules) (λ c. search rules) (λ c. search rules) (λ c. rw add-zero))
