pub mod Found
pub mod Over
pub mod Exact
pub mod One
pub mod Examples
