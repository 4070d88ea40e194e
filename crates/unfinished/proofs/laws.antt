pub mod Read
pub mod Sound
pub mod Claims
pub mod Examples
