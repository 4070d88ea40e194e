-- laws    what is proved of them; a reader of the meaning needs neither search nor laws
pub mod laws
pub mod ExactlyOne
