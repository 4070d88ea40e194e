-- Booking    what can be booked in a position: riichi, pao, and the results win, draw, chombo and multiple ron
-- Ledger     the game's numbers and a fresh position; each booking's refusals in order; what an accepted one gives each seat and leaves; the ledger of a list
-- Wins       what demand 3 claims of a win, and of a multiple ron: when it is accepted, and by which reading it is paid
-- Article67  what a win with pao gives each seat
--            `game_rules` the rules a second time
-- search     bounds of what is given, an open position by its fields, and fields after a booking, as the code has them
pub mod Booking
pub mod Ledger
pub mod Wins
pub mod Article67
pub mod search
