-- laws    what a win of a record that read, or did not, comes to by the ledger
pub mod laws
