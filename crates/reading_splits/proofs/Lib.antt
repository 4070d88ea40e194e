-- laws    the test holds exactly where a tally splits, and a tally with a regular reading is one that splits
pub mod laws
