-- Game     what is booked in a game, its refusal and the game after it; the bookings left standing
-- Runs     a list of entries, each lent the game as the last one left it
-- Demand3  what demand 3 claims of such a list
pub mod Game
pub mod Runs
pub mod Demand3
