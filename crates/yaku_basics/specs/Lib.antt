-- Melds   the groups that a hand's melds are, and their ways
-- Tests   what the yaku and fu ask of the four groups and the pair
-- search  the ways of four places as the code has them
pub mod Melds
pub mod Tests
pub mod search
