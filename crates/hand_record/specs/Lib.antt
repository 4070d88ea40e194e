-- Record   the hand record: its bits, what Read answers, what Write answers and stores
-- Lengths  how many bytes the record has that bytes start with, and where it is broken
-- search   the parts of a record by the bits at which they start, as the code reads them
pub mod Record
pub mod Lengths
pub mod search
