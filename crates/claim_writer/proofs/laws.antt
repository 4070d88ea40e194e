pub mod Bits
pub mod Named
pub mod Exact
pub mod Found
pub mod Claims
pub mod Examples
