-- Claims   the theorems: what is named of a hand, how many readings are tried, that the changes sum to 0
-- laws     what they stand on, and what the game needs of the changes
pub mod laws
pub mod ExactlyOne
pub mod Claims
