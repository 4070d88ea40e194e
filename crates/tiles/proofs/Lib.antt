-- Claims  the dora of each kind, written out
-- laws    what is proved of them; a reader of the meaning needs none of it
pub mod laws
pub mod Claims
