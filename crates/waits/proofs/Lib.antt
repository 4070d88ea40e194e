-- laws    what they stand on, and a worked hand
pub mod laws
pub mod ExactlyOne
