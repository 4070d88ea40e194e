-- How the code finds the cards: it draws tile after tile, never below the last one and never a fifth of a kind, and keeps what splits.
-- Nobody has to believe it: that `drawn` is the one list of all cards is what laws/Exact proves.
use Rattle.std.specs.Prelude.{List, [], ◌∷◌, ◌++◌, map, true, ℕ, zero, suc, ◌+◌, ◌-◌, ◌*◌, ◌/◌, ltb, get_or, replicate}
use Rattle.tiles.specs.Tally.{more}
use Rattle.reading.specs.search.Readings.{when}
use Rattle.reading_splits.specs.search.SplitsInto.{splits_into}

-- one tile more, of the j kinds from a on, before what is drawn then
unfoldable pub draw : (ℕ → ℕ → List ℕ → List (List ℕ)) → ℕ → ℕ → List ℕ → List (List ℕ)
draw rest zero a t = []
draw rest (suc j) a t = when (ltb (get_or t a 0) 4) (λ _. map (λ (l : List ℕ). a ∷ l) (rest (suc j) a (more t a 1))) ++ draw rest j (a + 1) t

-- the m tiles, each of the j kinds from a on, that with the tiles t make a pair and n groups
unfoldable pub draws : ℕ → ℕ → ℕ → ℕ → List ℕ → List (List ℕ)
draws n zero j a t = when (splits_into (suc n) true t) (λ _. [] ∷ [])
draws n (suc m) j a t = draw (draws n m) j a t

-- the cards of a suit and a size: what is no pair is three tiles a group
unfoldable pub drawn : ℕ → ℕ → List (List ℕ)
drawn suit size = draws ((size - 2) / 3) size 9 (9 * suit) (replicate 34 0)
