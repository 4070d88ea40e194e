-- Yaku     the 36 yaku of a reading, and which of them are listed
-- search   what the code keeps of a pair and groups for all places
pub mod Yaku
pub mod search
