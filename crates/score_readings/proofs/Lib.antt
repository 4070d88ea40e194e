-- Claims   the theorems: all of them are shown, in order, with what they are worth, and the one that Score reports is marked
-- laws     what they stand on
pub mod laws
pub mod ExactlyOne
pub mod Claims
