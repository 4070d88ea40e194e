-- laws      from choices to the nearest ready tally, and that there is one; a reader of the meaning needs neither (`ready` has it)
pub mod laws
