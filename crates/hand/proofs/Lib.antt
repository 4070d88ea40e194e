-- laws       bounds on how many there are
pub mod laws
