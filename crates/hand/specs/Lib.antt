-- Held       the tiles held: melds and concealed tiles, how many of each kind, Read's 2 to 4 over them
-- Hand       a hand: its fields and its tiles held, the tallies with the winning tile
-- Refusals   what a hand is refused for (01, Read: 2 to 5; Write)
pub mod Held
pub mod Hand
pub mod Refusals
