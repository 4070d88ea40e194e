pub mod Amounts
pub mod Form
pub mod After
pub mod First
pub mod Fines
pub mod Feeder
