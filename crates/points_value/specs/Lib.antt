-- Han     what each yaku counts in a closed hand and in an open one; h, the han of the listed yaku and the dora
-- Value   what a reading is worth: its yaku, h, the items of its fu and their sum, A and the winner's gain
--         that several yakuman pay as one
-- search  what the code keeps of a pair and groups for all places
pub mod Han
pub mod Value
pub mod search
