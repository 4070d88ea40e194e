-- Claims  demand 3 for every log; the text of a log a buffer at a time; the example of document 01
-- laws    what they stand on
pub mod laws
pub mod Claims
