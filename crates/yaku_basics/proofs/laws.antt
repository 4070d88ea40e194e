pub mod Twins
pub mod Suits
pub mod Ways
