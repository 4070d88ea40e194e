pub mod Lengths
pub mod Found
