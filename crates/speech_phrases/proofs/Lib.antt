-- laws  where a limit is paid, and clips chosen from a row
pub mod laws
