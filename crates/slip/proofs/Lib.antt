-- Claims  the theorems: every line has 25 bytes, each stands in its part of the page, the rest stays
-- laws    one line, and line by line, as the code writes them; what the theorems stand on, and two slips byte by byte
pub mod laws
pub mod Claims
