-- Walk    an entry of a log booked, the text that tally prints, and as many lines of it as fit in a buffer
pub mod Walk
