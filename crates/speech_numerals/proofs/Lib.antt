-- Claims    the theorems: heard-back, numeral-short, numeral-on-sheet, no-two-alike
-- laws      what they stand on, and the paper's table
pub mod laws
pub mod Claims
