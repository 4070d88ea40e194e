-- Claims  the theorems: in which order they refuse, both round trips, and what is written from a record
-- laws    what they stand on, and a worked hand
pub mod laws
pub mod Claims
