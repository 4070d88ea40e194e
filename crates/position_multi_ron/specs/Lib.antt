-- search  what the settling of several hands comes to, as the code makes it
pub mod search
