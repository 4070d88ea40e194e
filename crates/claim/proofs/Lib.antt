-- laws     what the theorems and the proofs of the functions stand on, and claims for two hands of the table
-- Claims   the theorems: each verdict exactly, and that Score's own reading is accepted
pub mod laws
pub mod ExactlyOne
pub mod Claims
