-- Claims    the theorems: by what has happened, for every list of entries from a fresh game; and by cases
-- laws      what they stand on
pub mod laws
pub mod Claims
