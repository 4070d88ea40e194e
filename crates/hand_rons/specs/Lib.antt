-- Records  records that lie end to end, what makes them rons on one tile, and their first winner (02, S-6)
-- search   records that read
pub mod Records
pub mod search
