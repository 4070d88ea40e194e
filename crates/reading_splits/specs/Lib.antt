-- Splits  what splits into a pair and groups
-- search  how the code finds that out: the test `splits_into`
pub mod Splits
pub mod search
