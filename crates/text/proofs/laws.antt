pub mod Digits
pub mod Back
pub mod Put
pub mod Line
pub mod Examples
