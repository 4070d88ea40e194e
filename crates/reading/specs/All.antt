-- All readings of a hand in one list, in document 01's order (02, S-4: "a search in that order"). Nothing here says how they are found.
use mathlib.Core.List.{List, [], ◌∷◌, Memᴰ as Member}
use Rattle.std.specs.Prelude.{ℕ}
use Rattle.reading.specs.declared.Reading.{Reading}
use Rattle.reading.specs.Reading.{IsReading}
use Rattle.reading.specs.Order.{Before}

-- P of each element of a list: a tool, no rule of the game
pub data Each {A : Type 0} (P : A → Type 0) : List A → Type 0 where
  none : Each P []
  also : {x : A} {xs : List A} → P x → Each P xs → Each P (x ∷ xs)

-- a list in order: R between each element and each later one
pub data Pairwise {A : Type 0} (R : A → A → Type 0) : List A → Type 0 where
  ended : Pairwise R []
  first : {x : A} {xs : List A} → Each (R x) xs → Pairwise R xs → Pairwise R (x ∷ xs)

-- "in that order", "all": the list has every reading of the tally t with m melds, won by the kind win, each before every later one, and nothing else.
-- Readings "with no yaku" are in it, and "each place in equal groups"
pub record IsAll (t : List ℕ) (m win : ℕ) (rs : List Reading) : Type 0 where
  pub readings : (r : Reading) → Member r rs → IsReading t m win r
  pub every : (r : Reading) → IsReading t m win r → Member r rs
  pub order : Pairwise Before rs
