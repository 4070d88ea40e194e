-- Call    the answer of the call and the buffer after it
-- search  what it writes and counts while it draws
pub mod Call
pub mod search
