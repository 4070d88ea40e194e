pub mod Chosen
pub mod Kept
pub mod Table
pub mod Answer
pub mod Attained
