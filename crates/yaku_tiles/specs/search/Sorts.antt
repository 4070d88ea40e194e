-- How the code tests a hand's tiles at once: nine sorts of kinds, and which of them a tally has. That a test of each tile is one of
-- the sorts is stated in laws/Sorts.
use Rattle.std.specs.Prelude.{Bool, false, ◌||◌, not, List, [], ◌∷◌, map, ℕ, get_or, ltb}
use Rattle.tiles.specs.Below.{all}

-- terminals and simples of man; of pin; terminals, 2 3 4 6 8 and 5 7 of sou; honours but hatsu; hatsu
abbrev pub sorts : List (List ℕ)
sorts =
    (0 ∷ 8 ∷ [])
    ∷ (1 ∷ 2 ∷ 3 ∷ 4 ∷ 5 ∷ 6 ∷ 7 ∷ [])
    ∷ (9 ∷ 17 ∷ [])
    ∷ (10 ∷ 11 ∷ 12 ∷ 13 ∷ 14 ∷ 15 ∷ 16 ∷ [])
    ∷ (18 ∷ 26 ∷ [])
    ∷ (19 ∷ 20 ∷ 21 ∷ 23 ∷ 25 ∷ [])
    ∷ (22 ∷ 24 ∷ [])
    ∷ (27 ∷ 28 ∷ 29 ∷ 30 ∷ 31 ∷ 33 ∷ [])
    ∷ (32 ∷ [])
    ∷ []

-- b, or h at one of the kinds
abbrev pub any_of : Bool → List ℕ → (ℕ → Bool) → Bool
any_of b [] h = b
any_of b (k ∷ ks) h = any_of (b || h k) ks h

-- which sorts the tally has a tile of
abbrev pub sorts_in : List ℕ → List Bool
sorts_in t = map (λ (ks : List ℕ). any_of false ks (λ k. ltb 0 (get_or t k 0))) sorts

-- each sort that is there is in the set
abbrev pub within : List Bool → List Bool → Bool
within x set = all 9 (λ j. get_or set j false || not (get_or x j false))
