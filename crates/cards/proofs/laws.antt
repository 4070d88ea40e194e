pub mod Tiles
pub mod Draws
pub mod Exact
pub mod One
