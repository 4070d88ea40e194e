-- How the code finds the best reading: what a keeper keeps of a list of readings. That the list has all of them, each once, in order is
-- stated in proofs/SearchClaims.
use Rattle.std.specs.Prelude.{List, [], ◌∷◌, ℕ, ◌-◌}
use Rattle.tiles.specs.Below.{tabulate}
use Rattle.reading.specs.declared.Reading.{Reading}
use Rattle.reading.specs.search.Readings.{concat_map}

-- what is kept after each of the readings, one after the other, from b on
unfoldable pub folded : {B : Type 0} → (B → Reading → B) → B → List Reading → B
folded keeper b [] = b
folded keeper b (r ∷ rs) = folded keeper (keeper b r) rs

-- the same in a loop over numbers: what is kept after the readings that f has at i, i + 1, .., n - 1
unfoldable pub ranged : {B : Type 0} → (B → Reading → B) → (ℕ → List Reading) → ℕ → ℕ → B → B
ranged keeper f n i b = folded keeper b (concat_map f (tabulate (n - i) i (λ k. k)))
