-- Claims   the theorems: digits-back, signed-back, digits-are-digits, no-leading-zero
-- laws     what they stand on, and the paper's two lines
pub mod laws
pub mod Claims
