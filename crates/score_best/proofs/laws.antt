pub mod Top
pub mod First
pub mod Tried
pub mod Over
pub mod Keep
pub mod Nth
