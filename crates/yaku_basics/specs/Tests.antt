-- What the yaku and fu ask of the groups and the pair: g has the codes of the four groups (68 none), ways their ways; pair 34 is none.
-- "Triplet includes kan here."
use Rattle.std.specs.Prelude.{Bool, ◌&&◌, ◌||◌, cond, List, ℕ, ◌+◌, ◌*◌, ◌-◌, ◌%◌, ◌/◌, get_or, eqb, leb}
use Rattle.tiles.specs.Below.{all, any, count, sum_below}
use Rattle.tiles.specs.Kinds.{is_yaochu, is_dragon, is_wind}
use Rattle.tiles.specs.Groups.{is_run, is_triplet}

-- the group of code c ("run: lowest kind; triplet: 34 + kind") is among the four
abbrev pub has : List ℕ → ℕ → Bool
has g c = any 4 (λ i. eqb (get_or g i 0) c)

-- "value tile": a dragon, the round wind or the own wind
abbrev pub is_value : ℕ → ℕ → ℕ → Bool
is_value round own k = is_dragon k || eqb k round || eqb k own

-- "dragon triplets": how many; 34 + 31 is white's, then hatsu's and chun's
abbrev pub dragons : List ℕ → ℕ
dragons g = count 3 (λ d. has g (65 + d))

-- "wind triplets": how many; 34 + 27 is East's, then South's, West's and North's
abbrev pub winds : List ℕ → ℕ
winds g = count 4 (λ w. has g (61 + w))

-- 24 "two dragon triplets and a dragon pair"
unfoldable pub little_dragons : List ℕ → ℕ → Bool
little_dragons g pair = eqb (dragons g) 2 && is_dragon pair

-- 3 "value triplet 1 each: dragons, round wind, own wind; both winds 2"; with 24 "those triplets not counted in 3"
unfoldable pub value_han : List ℕ → ℕ → ℕ → Bool → ℕ
value_han g round own little = cond little 0 (dragons g) + cond (has g (34 + round)) 1 0 + cond (has g (34 + own)) 1 0

-- "wait on pair, middle of a run, 3 of 123 or 7 of 789", where the winning tile completes the pair (place 0) or the group c
unfoldable pub earns_wait : ℕ → ℕ → ℕ → Bool
earns_wait place c win =
    eqb place 0 || (is_run c && (eqb win (c + 1) || (eqb (c % 9) 0 && eqb win (c + 2)) || (eqb (c % 9) 6 && eqb win c)))

-- "a run held twice or thrice": how many of the four groups are c
abbrev pub copies : List ℕ → ℕ → ℕ
copies g c = count 4 (λ i. eqb (get_or g i 0) c)

-- 5, 21: twin runs. "a run held twice or thrice" is one, "four equal runs" are two
unfoldable pub twins : List ℕ → ℕ
twins g = sum_below 27 (λ c. copies g c / 2)

-- 13 "same run in three suits", 16 "same triplet in three suits": the group of some number i is there in each suit s; the codes start at low,
-- 0 for runs and 34 for triplets, and a suit has nine, of which the last two are no run
unfoldable pub in_three_suits : ℕ → List ℕ → Bool
in_three_suits low g = any 9 (λ i. all 3 (λ s. has g (low + i + 9 * s)))

-- 14 "123 456 789 of a suit"
unfoldable pub straight : List ℕ → Bool
straight g = any 3 (λ s. has g (9 * s) && has g (9 * s + 3) && has g (9 * s + 6))

-- "yaochu in every group": a run from 1 or to 9, or a triplet of yaochu
unfoldable pub has_yaochu : ℕ → Bool
has_yaochu c = cond (is_run c) (eqb (c % 9) 0 || eqb (c % 9) 6) (is_yaochu (c - 34))

-- 15 "yaochu in every group and pair, a run among them"
unfoldable pub outside : List ℕ → ℕ → Bool
outside g pair = all 4 (λ i. has_yaochu (get_or g i 0)) && is_yaochu pair && any 4 (λ i. is_run (get_or g i 0))

-- 17 "four triplets"
abbrev pub triplets : List ℕ → Bool
triplets g = all 4 (λ i. is_triplet (get_or g i 0))

-- "concealed triplets and closed kans are concealed"
abbrev pub is_concealed : ℕ → ℕ → Bool
is_concealed c way = is_triplet c && (eqb way 0 || eqb way 3)

-- 18, 30: "concealed triplets", how many
unfoldable pub concealed : List ℕ → List ℕ → ℕ
concealed g ways = count 4 (λ i. is_concealed (get_or g i 0) (get_or ways i 0))

-- 19, 31: "kans", how many; the ways 2 and 3
unfoldable pub kans : List ℕ → ℕ
kans ways = count 4 (λ i. leb 2 (get_or ways i 0))

-- 29 "three wind triplets and a wind pair, or four"
unfoldable pub four_winds : List ℕ → ℕ → Bool
four_winds g pair = (eqb (winds g) 3 && is_wind pair) || eqb (winds g) 4
