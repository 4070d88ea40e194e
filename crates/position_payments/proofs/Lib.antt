-- laws     what each part comes to, and that together they are what the ledger's table says
pub mod laws
