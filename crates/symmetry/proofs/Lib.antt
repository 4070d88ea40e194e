-- Claims   the theorems
-- laws     what they stand on, a renamed hand that there is, and a hand that shows why all green is left out
pub mod laws
pub mod Claims
