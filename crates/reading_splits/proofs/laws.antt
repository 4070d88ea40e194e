pub mod SplitsInto
pub mod Groups
pub mod Regular
