pub mod Apart
pub mod Lengths
pub mod OnSheet
pub mod Short
pub mod Told
pub mod Named
