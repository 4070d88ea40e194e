pub mod Tallies
pub mod Moves
pub mod Made
