-- How the code finds the readings of a hand: a search, code by code, and the list `readings` that it meets. Nobody has to believe it:
-- that the list has all readings, each once, in the document's order and nothing else is stated in proofs/SearchClaims.
use Rattle.std.specs.Prelude.{◌≡◌, Bool, true, false, ◌&&◌, cond, List, [], ◌∷◌, ◌++◌, map, ℕ, zero, suc, ◌+◌, ◌-◌, ◌%◌, ◌<◌, ◌≤◌, leb, eqb, get_or, set, replicate}
use Rattle.tiles.specs.Below.{all_below, tabulate}
use Rattle.tiles.specs.Groups.{is_run, is_group}
use Rattle.reading.specs.declared.Reading.{Reading}
use Rattle.reading.specs.Reading.{holds, is_seven_pairs, is_orphans, of_shape}

-- the list, where the test holds. It is a function so that antt computes it only there
abbrev pub when {ℓ} : {A : Type ℓ} → Bool → (Unit {0} → List A) → List A
when true f = f tt
when false f = []

-- the lists of f, one after the other
unfoldable pub concat_map : {A B : Type 0} → (A → List B) → List A → List B
concat_map f [] = []
concat_map f (x ∷ xs) = f x ++ concat_map f xs

-- no tile is left
unfoldable pub is_empty : List ℕ → Bool
is_empty t = all_below 34 (λ k. eqb (get_or t k 0) 0)

-- t with n tiles of kind a less
unfoldable pub less : List ℕ → ℕ → ℕ → List ℕ
less t a n = set t a (get_or t a 0 - n)

-- c is a group, and t has its tiles
unfoldable pub fits : List ℕ → ℕ → Bool
fits t c = is_group c && cond (is_run c) (leb 1 (get_or t c 0) && leb 1 (get_or t (c + 1) 0) && leb 1 (get_or t (c + 2) 0)) (leb 3 (get_or t (c - 34) 0))

-- t without the tiles of the group c
unfoldable pub without : List ℕ → ℕ → List ℕ
without t c = cond (is_run c) (less (less (less t c 1) (c + 1) 1) (c + 2) 1) (less t (c - 34) 3)

-- groups past c can still take what t has: past its run a kind goes by threes, and past its triplet none is left
unfoldable pub passes : List ℕ → ℕ → Bool
passes t c = cond (is_run c) (eqb (get_or t c 0 % 3) 0) (eqb (get_or t (c - 34) 0) 0)

-- none of the kinds from k to n has a tile
abbrev pub NoneFrom : List ℕ → ℕ → ℕ → Type 0
NoneFrom t k n = (j : ℕ) → k ≤ j → j < n → get_or t j 0 ≡ 0

-- the codes from `code` to n do not fit, and groups past them can still take what t has
abbrev pub PassedOver : List ℕ → ℕ → ℕ → Type 0
PassedOver t code n = (c : ℕ) → code ≤ c → c < n → (fits t c ≡ false) × (passes t c ≡ true)

-- one group more, of the n codes from c on, before the splittings of the rest
unfoldable pub step : (ℕ → ℕ → List ℕ → List (List ℕ)) → ℕ → ℕ → List ℕ → List (List ℕ)
step rest zero c t = []
step rest (suc n) c t =
    when (fits t c) (λ _. map (λ (gs : List ℕ). c ∷ gs) (rest (suc n) c (without t c))) ++ when (passes t c) (λ _. step rest n (c + 1) t)

-- the splittings of t into g groups of the n codes from c on
unfoldable pub splits : ℕ → ℕ → ℕ → List ℕ → List (List ℕ)
splits zero n c t = when (is_empty t) (λ _. [] ∷ [])
splits (suc g) n c t = step (splits g) n c t

-- the regular reading of a pair, groups and a place
abbrev pub regular_of : ℕ → List ℕ → ℕ → Reading
regular_of pair groups place = record { shape = 0; pair = pair; groups = groups; place = place }

-- the reading with a place, where that holds the winning kind
unfoldable pub placed_at : ℕ → ℕ → List ℕ → ℕ → List Reading
placed_at win pair groups place = when (holds pair groups place win) (λ _. regular_of pair groups place ∷ [])

-- the readings of a pair and groups: each place among the pair and the first n groups
unfoldable pub placed : ℕ → ℕ → ℕ → List ℕ → List Reading
placed n win pair groups = concat_map (placed_at win pair groups) (tabulate (suc n) 0 (λ p. p))

-- the readings with the pair k: each splitting of the other tiles
unfoldable pub paired : List ℕ → ℕ → ℕ → ℕ → List Reading
paired t m win k =
    when (leb 2 (get_or t k 0)) (λ _. concat_map (λ (gs : List ℕ). placed (4 - m) win k (gs ++ replicate m 68)) (splits (4 - m) 68 0 (less t k 2)))

-- the readings of the other shapes: "m = 0"
unfoldable pub shaped : List ℕ → ℕ → List Reading
shaped t m = when (eqb m 0) (λ _. when (is_seven_pairs t) (λ _. of_shape 1 ∷ []) ++ when (is_orphans t) (λ _. of_shape 2 ∷ []))

-- the readings of the tally t with m melds, won by the kind win
unfoldable pub readings : List ℕ → ℕ → ℕ → List Reading
readings t m win = concat_map (paired t m win) (tabulate 34 0 (λ k. k)) ++ shaped t m
