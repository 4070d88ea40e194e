-- Bits    fields of given widths, packed as bits
pub mod Bits
