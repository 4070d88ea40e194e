-- What the code writes and counts while it draws. Nobody has to believe it: laws/Call proves that in the end it is the list of all cards.
use Rattle.std.specs.Prelude.{List, ◌++◌, ℕ, ◌-◌, length}
use Rattle.reading.specs.search.Readings.{concat_map}
use Rattle.cards.specs.search.Draws.{draws}

-- the tiles so far before each of the lists, one after the other
unfoldable pub with_prefix : List ℕ → List (List ℕ) → List ℕ
with_prefix prefix ls = concat_map (λ (l : List ℕ). prefix ++ l) ls

-- what is written behind the tiles so far
unfoldable pub written : List ℕ → ℕ → ℕ → ℕ → ℕ → List ℕ → List ℕ
written prefix n left end low t = with_prefix prefix (draws n left (end - low) low t)

-- how many are drawn of the kinds from low up to end
unfoldable pub counted : ℕ → ℕ → ℕ → ℕ → List ℕ → ℕ
counted n left end low t = length (draws n left (end - low) low t)
