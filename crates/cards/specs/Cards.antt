-- What a practice card is, and the list of them all (02, S-9). Nothing here says how the cards are found.
use Rattle.std.specs.Prelude.{◌≡◌, true, ℕ, ◌≤◌, eqb, length, get_or}
use mathlib.Core.List.{List, Memᴰ as Member}
use Rattle.tiles.specs.Below.{count_below}
use Rattle.tiles.specs.Kinds.{in_suit}
use Rattle.reading.specs.Order.{Lex}
use Rattle.reading.specs.All.{Each, Pairwise}
use Rattle.reading_splits.specs.Splits.{Splits}

-- how many of the tiles l are of kind k
unfoldable pub among : List ℕ → ℕ → ℕ
among l k = count_below (length l) (λ i. eqb (get_or l i 0) k)

-- "every set of 2, 5 or 8 tiles of one suit, at most four of a kind, that splits into one pair and runs or triplets. Tiles stand ascending":
-- of any size, and any number n of runs and triplets
pub record Card (suit size : ℕ) (l : List ℕ) : Type 0 where
  pub tiles : length l ≡ size
  pub suited : Each (λ k. in_suit suit k ≡ true) l
  pub four : (k : ℕ) → among l k ≤ 4
  pub splits : (n : ℕ) × Splits n (among l)
  pub ascending : Pairwise ◌≤◌ l

-- the list of a suit and a size: "the sets in ascending order of their tile lists", each before every later one, so that none is there twice;
-- "every such set appears just one time and no other set does"
pub record IsCardList (suit size : ℕ) (cards : List (List ℕ)) : Type 0 where
  pub order : Pairwise Lex cards
  pub every : (l : List ℕ) → Card suit size l → Member l cards
  pub only : (l : List ℕ) → Member l cards → Card suit size l
