-- laws  what the functions stand on, and worked messages
pub mod laws
