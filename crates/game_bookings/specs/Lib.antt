-- searchthe position in which the code makes a booking, and what a correction meets
pub mod search
