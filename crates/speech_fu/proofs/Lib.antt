-- laws  the items in three parts, and a worked message
pub mod laws
