-- Claims   the theorems: widths-fill, sound, read-write, write-read
-- laws     what they stand on, and the table of hands as records; that an unbroken record has the length that Read wants, and a broken one is Read's 1
pub mod laws
pub mod Claims
