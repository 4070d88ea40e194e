-- The tiles of a suit or an honour by threes: where there are some over, a tile more may make groups and a pair. Nobody has to believe it: that a kind
-- is passed over only where it is no wait is in laws/Over.
use Rattle.std.specs.Prelude.{Bool, not, cond, List, ℕ, ◌+◌, ◌-◌, ◌*◌, ◌/◌, ◌%◌, ltb, eqb, get_or}
use Rattle.tiles.specs.Below.{sum}

-- 0 to 2 for the kinds of the suits, 3 to 9 for the honours
unfoldable pub sort_of : ℕ → ℕ
sort_of k = cond (ltb k 27) (k / 9) (k - 24)

-- the tiles of a suit or an honour
unfoldable pub of_sort : List ℕ → ℕ → ℕ
of_sort t c = cond (ltb c 3) (sum 9 (λ i. get_or t (9 * c + i) 0)) (get_or t (24 + c) 0)

-- some are over threes
unfoldable pub is_over : List ℕ → ℕ → Bool
is_over t c = not (eqb (of_sort t c % 3) 0)

-- how many of the first n have some over
abbrev pub overs : List ℕ → ℕ → ℕ
overs t n = sum n (λ c. cond (is_over t c) 1 0)
