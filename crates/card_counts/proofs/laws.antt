pub mod Shift
pub mod Count
