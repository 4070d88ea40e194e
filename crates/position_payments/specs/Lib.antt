-- search   a win's payments in two parts, as the code makes them: of the gain with pao, and of the counters
pub mod search
