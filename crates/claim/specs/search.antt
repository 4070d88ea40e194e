pub mod Claimed
pub mod Verdict
pub mod Judge
