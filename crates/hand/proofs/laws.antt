pub mod Held
pub mod Default
pub mod Used
