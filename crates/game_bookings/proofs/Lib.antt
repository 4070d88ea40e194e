-- laws  that what the code makes of an entry is what `Books` says
pub mod laws
