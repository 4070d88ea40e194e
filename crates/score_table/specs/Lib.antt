-- Table    lines 1 to 12 of the table of hands
pub mod Table
