-- Claims   the theorems: demand 3; what a correction supersedes
-- laws     what they stand on
pub mod laws
pub mod Claims
