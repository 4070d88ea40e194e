-- Readings the readings of a hand in order, one list
-- Named    what the papers name as the score of a sound hand
-- IsScore  what Score answers, for every record, dealer and round wind
-- Score    there is exactly one such answer: the score
-- search   how the code finds it
pub mod Readings
pub mod Named
pub mod IsScore
pub mod search
pub mod Score
