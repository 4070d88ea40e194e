pub mod Limit
pub mod Chosen
pub mod Seats
