-- Shown    what is shown of a reading
-- IsNth    what is answered for the number of a reading
-- NthOf    there is exactly one such answer
-- Count    how many readings there are
-- search   how the code finds it
pub mod Shown
pub mod IsNth
pub mod Count
pub mod search
pub mod NthOf
