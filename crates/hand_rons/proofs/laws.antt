pub mod OneTile
pub mod Cut
pub mod First
pub mod Hands
