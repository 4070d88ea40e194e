-- laws    what is proved of them; a reader of the meaning needs none of it
pub mod laws
