-- search    what the functions promise each other
pub mod search
