-- The practice cards (02, S-9): of every suit and size there is exactly one list of all cards in order, and that is the list.
use Rattle.std.specs.Prelude.{List, ℕ}
use Rattle.tiles.specs.One.{ExactlyOne}
use Rattle.reading.specs.Order.{Lex}
use Rattle.reading.proofs.laws.Readings.{lex_irreflexive}
use Rattle.cards.specs.Cards.{IsCardList}
use Rattle.cards.specs.CardList.{cards_of}
use Rattle.cards.proofs.laws.Exact as laws
use Rattle.cards.proofs.laws.One as one

-- "State it over the size, with one argument for all three": there is such a list, and every such list is that one
pub exactly_one_card_list : (suit size : ℕ) → ExactlyOne (IsCardList suit size)
exactly_one_card_list = laws.exactly_one_card_list

-- `cards_of` is that one list
pub cards_are_cards : (suit size : ℕ) → IsCardList suit size (cards_of suit size)
cards_are_cards = one.cards_exactly

-- "just one time": no set comes before itself
pub not_before_itself : (l : List ℕ) → Lex l l → ⊥
not_before_itself = lex_irreflexive
