-- Waits   what an unfinished hand waits for, and what the call answers
-- Answer  there is exactly one answer
-- search  how the code finds the waits
pub mod Waits
pub mod search
pub mod Answer
