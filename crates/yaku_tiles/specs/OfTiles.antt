-- The yaku that go by the tiles alone: t is the tally of all tiles of the hand, kans whole.
use Rattle.std.specs.Prelude.{Bool, ◌&&◌, ◌||◌, cond, not, List, ℕ, ◌+◌, ◌*◌, ◌%◌, get_or, eqb, leb}
use Rattle.tiles.specs.Below.{all, any, all_below}
use Rattle.tiles.specs.Kinds.{is_number, in_suit, is_honour}

-- "all simples", "only yaochu", "honours only": each tile has p
unfoldable pub only : List ℕ → (ℕ → Bool) → Bool
only t p = all_below 34 (λ k. eqb (get_or t k 0) 0 || p k)

-- 15 "an honour present": not all are numbers
abbrev pub honour_present : List ℕ → Bool
honour_present t = not (only t is_number)

-- 23 "one suit and honours, both present": numbers of one suit and honours, not only numbers, not only honours
unfoldable pub half_flush : List ℕ → Bool
half_flush t = any 3 (λ s. only t (λ k. in_suit s k || is_honour k)) && not (only t is_number) && not (only t is_honour)

-- 25 "one suit"
unfoldable pub flush : List ℕ → Bool
flush t = any 3 (λ s. only t (in_suit s))

-- 34 "sou 2 3 4 6 8 and hatsu"
abbrev pub is_green : ℕ → Bool
is_green k = eqb k 19 || eqb k 20 || eqb k 21 || eqb k 23 || eqb k 25 || eqb k 32

-- "one suit's 1112345678999": three of its 1 and of its 9, one of each between, or more
abbrev pub gates_of : List ℕ → ℕ → Bool
gates_of t s = all 9 (λ i. leb (cond (eqb (i % 8) 0) 3 1) (get_or t (9 * s + i) 0))

-- 35 "m = 0, one suit's 1112345678999 and one more of it": of the 14 tiles of a hand with no meld one is left
unfoldable pub gates : List ℕ → Bool → Bool
gates t meldless = meldless && any 3 (λ s. only t (in_suit s) && gates_of t s)
