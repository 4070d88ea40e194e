pub mod Written
pub mod Tallies
pub mod Nearest
pub mod Answer
pub mod Claims
