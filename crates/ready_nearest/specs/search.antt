pub mod Top
pub mod Found
