-- Fu      fu item by item, and their sum
-- search  what the groups earn and the items before rounding, as the code has them
pub mod Fu
pub mod search
