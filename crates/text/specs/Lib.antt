-- Words    a quoted text as bytes
-- Text     numbers as text, a line of `tally`, and what a buffer holds with it
-- Put      a text put into a buffer
-- Back     text read back as a number
pub mod Words
pub mod Text
pub mod Put
pub mod Back
