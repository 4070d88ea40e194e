-- Best     which of two readings is reported, and how far a search in order goes
-- search   what a reading is worth as the code makes it (`score` says what that means), and how it keeps the reported one of a list
pub mod Best
pub mod search
