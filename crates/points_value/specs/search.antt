pub mod Common
pub mod Han
