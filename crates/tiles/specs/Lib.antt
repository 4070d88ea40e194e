-- Below   tests, counts and sums over the numbers below n
-- One     exactly one: a tool for answers stated by a relation
-- Kinds   the 34 kinds of tile and the sorts that the rules name
-- Groups  runs and triplets by their codes
-- Tally   how many of each kind there are
pub mod Below
pub mod One
pub mod Kinds
pub mod Groups
pub mod Tally
