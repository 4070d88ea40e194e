-- laws    what the theorems and the proofs of the functions stand on, and claims byte by byte
-- Claims  the theorems: what is written names what was put in, the only bytes that do, and 22 exactly
pub mod laws
pub mod ExactlyOne
pub mod Claims
