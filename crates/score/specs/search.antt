pub mod HandCommon
pub mod HandScore
pub mod Parts
