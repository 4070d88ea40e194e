-- Claims    the theorems: how long each message is, and that the sheet has its clips
-- laws      what they and the functions stand on
pub mod laws
pub mod Claims
