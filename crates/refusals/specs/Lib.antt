-- What the papers call a refusal.
pub mod Refusal
