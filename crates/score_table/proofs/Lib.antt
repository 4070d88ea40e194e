-- Claims   the theorem that they hold
-- laws     each computed, and hands whose readings are counted
pub mod laws
pub mod Claims
