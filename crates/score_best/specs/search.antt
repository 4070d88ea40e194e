pub mod HandCommon
pub mod Best
