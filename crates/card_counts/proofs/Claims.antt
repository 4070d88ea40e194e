-- How many practice cards there are (02, S-9): "The number of sets is returned."
use Rattle.std.specs.Prelude.{◌≡◌, ℕ, ◌≤◌, length}
use Rattle.cards.specs.CardList.{cards_of, card_bytes}
use Rattle.card_counts.proofs.laws.Count as laws

module _ (suit : ℕ) (h : suit ≤ 2) where
  -- "every set of 2, 5 or 8 tiles"
  pub numbers_of_sets : (length (cards_of suit 2) ≡ 9) × (length (cards_of suit 5) ≡ 135) × (length (cards_of suit 8) ≡ 996)
  numbers_of_sets = laws.counted suit h

  -- "the whole list", "one byte each"
  pub bytes_of_lists : (length (card_bytes suit 2) ≡ 18) × (length (card_bytes suit 5) ≡ 675) × (length (card_bytes suit 8) ≡ 7968)
  bytes_of_lists = laws.bytes suit h
