pub mod Found
pub mod Over
