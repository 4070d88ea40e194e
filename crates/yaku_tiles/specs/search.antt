pub mod TileTests
pub mod Sorts
