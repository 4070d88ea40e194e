pub mod Turn
pub mod Fill
pub mod Through
pub mod Examples
