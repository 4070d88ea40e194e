-- laws    what the settling of the records of a multiple ron comes to by the ledger
pub mod laws
