-- Claims     the theorems of the ledger: the floor, counters, never 12, pao, multiple ron, no riichi on credit; crate `game` has demand 3, and
-- laws       the proofs of these theorems, and what those of `game` and `game_rules` stand on
pub mod laws
pub mod Claims
