pub mod Signed
pub mod Balance
pub mod Bounds
