pub mod Readings
pub mod Pairs
pub mod Folded
pub mod Stored
