-- laws      what is proved of them; a reader of the meaning needs neither (`ready` has it)
pub mod laws
