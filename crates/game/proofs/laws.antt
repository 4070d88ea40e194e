pub mod After
pub mod Lists
pub mod Standing
pub mod Demand3
pub mod Superseded
pub mod Examples
