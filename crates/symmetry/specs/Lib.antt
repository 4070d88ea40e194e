-- Rotated  seats moved on: a hand, its record; what its score then is
-- Renamed  suits renamed: kinds, melds, a hand with its concealed tiles put back in order; what stays of a score
pub mod Rotated
pub mod Renamed
