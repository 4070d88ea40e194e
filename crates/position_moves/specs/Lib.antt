-- search  what finishing a hand leaves
pub mod search
