-- The cards of a suit and a size are a list of them all, and the only one.
use Rattle.std.specs.Prelude.{◌≡◌, refl, Bool, true, false, cond, List, [], ℕ, ltb}
use Rattle.std.proofs.Common.{ltb-true, ltb-false}
use Rattle.cards.specs.Cards.{IsCardList}
use Rattle.cards.specs.CardList.{cards_of}
use Rattle.cards.specs.search.Draws.{drawn}
use Rattle.cards.proofs.laws.Exact.{card_list_none, card_list_drawn, one_card_list}

module _ (suit size : ℕ) where
  -- it ascends, each element is a card, and every card is in it
  pub cards_exactly : IsCardList suit size (cards_of suit size)
  unfolding cards_of
  cards_exactly = go (ltb 2 suit) refl
    where
      go : (b : Bool) → ltb 2 suit ≡ b → IsCardList suit size (cond b [] (drawn suit size))
      go true e = card_list_none suit size (ltb-true 2 suit e)
      go false e = card_list_drawn suit size (ltb-false 2 suit e)

  -- and it is the only one
  pub only_cards : (y : List (List ℕ)) → IsCardList suit size y → y ≡ cards_of suit size
  only_cards y a = one_card_list a cards_exactly
