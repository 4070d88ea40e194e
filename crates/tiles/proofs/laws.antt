pub mod Below
pub mod Tabulate
pub mod Tally
pub mod Sums
