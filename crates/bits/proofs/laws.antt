pub mod Pack
pub mod Elem
pub mod Bytes
