-- search    the nearest ready hand over tallies; the states and choices by which a complete hand is made kind by kind
pub mod search
