-- search  what the settling of a win comes to, as the code makes it
pub mod search
