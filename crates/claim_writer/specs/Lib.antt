-- Writes  which bytes are a claim of a reading and a gain, and what the writer of claims answers and leaves
-- Write   there is exactly one such answer
-- search  how the code finds it
pub mod Writes
pub mod search
pub mod Write
