-- Claims    the theorems: score-told-apart, and of each message its length and the sheet
-- laws      what they stand on
pub mod laws
pub mod Claims
