-- Claims  the number of cards of each size, and the bytes of the whole list
-- laws    counted in the first suit, and the same in each
pub mod laws
pub mod Claims
