-- A tally: how many tiles there are of each of the 34 kinds.
use Rattle.std.specs.Prelude.{List, ℕ, ◌+◌, get_or, set}
use Rattle.tiles.specs.Below.{tabulate}

-- "the tally of all 34 kinds" (01, Readings): f k tiles of kind k
unfoldable pub tally_of : (ℕ → ℕ) → List ℕ
tally_of f = tabulate 34 0 f

-- n more tiles of kind k; what is no kind is not counted
unfoldable pub more : List ℕ → ℕ → ℕ → List ℕ
more t k n = set t k (get_or t k 0 + n)
