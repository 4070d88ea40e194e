-- Unfinished  the bits of an unfinished hand, and what its reader refuses
pub mod Unfinished
