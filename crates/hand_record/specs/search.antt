pub mod Offsets
pub mod Bounds
