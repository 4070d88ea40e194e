-- The tiles held (01, Tiles and the hand record): m melds and 13 − 3m concealed tiles, how many of each kind, and Read's 2, 3 and 4 over them.
-- A finished hand adds its winning tile and its indicator.
use Rattle.std.specs.Prelude.{Bool, ◌&&◌, ◌||◌, cond, not, ℕ, ◌+◌, ◌-◌, ◌*◌, ◌/◌, ◌%◌, ltb, leb, eqb, get_or}
use Rattle.tiles.specs.Below.{all, any, all_below, any_below, sum, count_below}
use Rattle.tiles.specs.Kinds.{is_run_start}
use Rattle.tiles.specs.Groups.{at_kind}
use Rattle.hand.specs.declared.Held.{Held}

-- ---- melds and concealed tiles

-- a meld of 8 bits: "kind 2: 0 chi, 1 pon, 2 open kan, 3 closed kan"
abbrev pub meld_kind : ℕ → ℕ
meld_kind b = b / 64

-- "tile 6, the lowest of a chi"
abbrev pub meld_tile : ℕ → ℕ
meld_tile b = b % 64

-- "m melds": p at each of them
abbrev pub each_meld : Held → (ℕ → Bool) → Bool
each_meld x p = all 4 (λ i. leb x.m i || p (get_or x.melds i 0))

-- "m melds": p at one of them
abbrev pub some_meld : Held → (ℕ → Bool) → Bool
some_meld x p = any 4 (λ i. ltb i x.m && p (get_or x.melds i 0))

-- "13 − 3m other concealed tiles"
abbrev pub others : Held → ℕ
others x = 13 - 3 * x.m

-- "A hand is closed when all its melds are closed kans."
abbrev pub is_closed : Held → Bool
is_closed x = each_meld x (λ b. eqb (meld_kind b) 3)

-- Read's 5, "without a kan": "2 open kan, 3 closed kan"
abbrev pub has_kan : Held → Bool
has_kan x = some_meld x (λ b. leb 2 (meld_kind b))

-- ---- how many of each kind

-- how many tiles of kind k a meld has: a chi its tile and the two after it ("tile 6, the lowest of a chi"), a pon three of its tile, a kan four
unfoldable pub meld_holds : ℕ → ℕ → ℕ
meld_holds b k =
    cond (eqb (meld_kind b) 0) (at_kind (meld_tile b) 1 k + at_kind (meld_tile b + 1) 1 k + at_kind (meld_tile b + 2) 1 k)
    (cond (eqb (meld_kind b) 1) (at_kind (meld_tile b) 3 k) (at_kind (meld_tile b) 4 k))

-- how many of kind k among the melds
unfoldable pub in_melds : Held → ℕ → ℕ
in_melds x k = sum 4 (λ i. cond (ltb i x.m) (meld_holds (get_or x.melds i 0) k) 0)

-- how many of kind k among the "13 − 3m other concealed tiles"
unfoldable pub in_others : Held → ℕ → ℕ
in_others x k = count_below (others x) (λ i. eqb (get_or x.concealed i 0) k)

-- how many of kind k among melds and concealed tiles together
unfoldable pub in_held : Held → ℕ → ℕ
in_held x k = in_others x k + in_melds x k

-- ---- Read's 2, 3 and 4 over them

-- 2: "a tile over 33"
unfoldable pub tile_over33 : Held → Bool
tile_over33 x = some_meld x (λ b. ltb 33 (meld_tile b)) || any_below (others x) (λ i. ltb 33 (get_or x.concealed i 0))

-- 2: "a chi with no run from that tile"
abbrev pub chi_without_run : Held → Bool
chi_without_run x = some_meld x (λ b. eqb (meld_kind b) 0 && not (is_run_start (meld_tile b)))

-- 2, with the padding bits as a number: also "a padding bit set"
unfoldable pub wrong_held : Held → ℕ → Bool
wrong_held x padding = tile_over33 x || chi_without_run x || ltb 0 padding

-- 3: "concealed tiles descend somewhere"
unfoldable pub descends : Held → Bool
descends x = any_below (others x - 1) (λ i. ltb (get_or x.concealed (i + 1) 0) (get_or x.concealed i 0))

-- 4: "over four of a kind among" tiles of which there are n k of kind k
unfoldable pub over_four : (ℕ → ℕ) → Bool
over_four n = any_below 34 (λ k. ltb 4 (n k))

-- Write's 2: "or an unused place not zero": a meld from m on, a concealed tile from 13 − 3m on
unfoldable pub unused_not_zero : Held → Bool
unused_not_zero x =
    not (all 4 (λ i. ltb i x.m || eqb (get_or x.melds i 0) 0))
    || not (all_below 13 (λ i. ltb i (others x) || eqb (get_or x.concealed i 0) 0))
