pub mod Store
pub mod Round
pub mod Claims
pub mod Order
pub mod Examples
