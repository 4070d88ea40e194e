-- Claims  the theorems: what the walk hands back and where it ends
-- laws    what they stand on, and examples
pub mod laws
pub mod ExactlyOne
pub mod Claims
