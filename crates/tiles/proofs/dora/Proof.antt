-- `tiles::dora` meets its contract, suit by suit.
use borrow.Author.Rules.{rules}
use native.Mathlib.Omega.{arith}
use borrow.Author.Tests.{lt-ltb, le-ltb}
use Rattle.tiles.specs.Kinds.{dora_of}
use Rattle.tiles.proofs.dora.Statement.{statement}
use Rattle.tiles.proofs.dora.Tie as tie

pub dora_spec : {M : Type 1} → statement M
unfolding dora_of
dora_spec =
    tie.close
    (tie.spec
    (λ c. search rules) (λ c. search rules) (λ c. search rules) (λ c. search rules) (λ c. search rules)
    (λ c. search rules) (λ c. search rules) (λ c. (search (rules, lt-ltb, le-ltb), omega arith))
    (λ c. (search (rules, lt-ltb, le-ltb), omega arith)) (λ c. (search (rules, lt-ltb, le-ltb), omega arith))
    (λ c. (search (rules, lt-ltb, le-ltb), omega arith)))
