-- The practice cards (02, S-9): the one list of all cards in order of a suit and a size (`ExactlyOne`: there is one, and every such list is that one).
use mathlib.Core.List.{List, [], flatten}
use Rattle.std.specs.Prelude.{ℕ, cond, ltb}
use Rattle.cards.specs.search.Draws.{drawn}

-- the cards of a suit and a size: that one list
unfoldable pub cards_of : ℕ → ℕ → List (List ℕ)
cards_of suit size = cond (ltb 2 suit) [] (drawn suit size)

-- "the whole list": tiles "one byte each", set after set
unfoldable pub card_bytes : ℕ → ℕ → List ℕ
card_bytes suit size = flatten (cards_of suit size)
