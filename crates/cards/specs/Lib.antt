-- Cards   what a card is, and a list of all cards of a suit and a size
-- CardList    there is exactly one such list
-- search  how the code finds the cards
pub mod Cards
pub mod search
pub mod CardList
