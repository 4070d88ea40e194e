pub mod Same
pub mod Found
pub mod Exact
pub mod One
pub mod Listed
pub mod Claims
