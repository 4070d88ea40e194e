-- laws    what finishing a hand and putting a stick come to by the ledger
pub mod laws
