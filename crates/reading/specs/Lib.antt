-- Reading   what a reading is
-- Order     which reading comes before which
-- All       a list of all readings of a hand, in order
-- search    how the code finds the readings: the list `readings`, the kinds tried for the pair, the fold `folded`; its claims: all, once, in order
pub mod Reading
pub mod Order
pub mod All
pub mod search
