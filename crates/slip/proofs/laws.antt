pub mod Line
pub mod Lines
pub mod Answer
pub mod Score
pub mod Short
pub mod Page
pub mod Examples
