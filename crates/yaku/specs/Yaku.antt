-- The yaku of a reading (01, Yaku), as a list of 37: yaku n at index n, and false at index 0.
use Rattle.std.specs.Prelude.{Bool, false, ◌&&◌, not, cond, List, [], ◌∷◌, ℕ, ◌+◌, ◌-◌, get_or, eqb, leb, ltb}
use Rattle.tiles.specs.Below.{all, any, tabulate, any_below}
use Rattle.tiles.specs.Kinds.{is_honour, is_terminal, is_yaochu, is_simple}
use Rattle.tiles.specs.Groups.{is_run}
use Rattle.yaku_tiles.specs.OfTiles.{only, honour_present, half_flush, flush, is_green, gates}
use Rattle.yaku_basics.specs.Tests.{is_value, little_dragons, value_han, earns_wait, twins, in_three_suits, straight, outside, triplets, concealed, kans, dragons}
use Rattle.yaku_basics.specs.Tests.{four_winds}
use Rattle.yaku.specs.declared.Won.{Won}
use Rattle.yaku.specs.declared.FullReading.{FullReading}

-- the yaku marked "c": "closed only"
abbrev pub closed_only : List ℕ
closed_only = 1 ∷ 4 ∷ 5 ∷ 10 ∷ 11 ∷ 12 ∷ 21 ∷ 30 ∷ []

-- 3 "value triplet 1 each": how many han it counts
abbrev pub value_han_of : Won → FullReading → ℕ
value_han_of w p = value_han p.groups w.round w.own (little_dragons p.groups p.pair)

-- the pair or group at the place earns "wait fu"
abbrev pub has_wait_fu : Won → FullReading → Bool
has_wait_fu w p = earns_wait p.place (get_or p.groups (p.place - 1) 0) w.win

-- 4 "pinfu c1: four runs, place a run earning no wait fu, pair no value tile"
unfoldable pub pinfu : Won → FullReading → Bool
pinfu w p = w.closed && all 4 (λ i. is_run (get_or p.groups i 0)) && not (has_wait_fu w p) && not (is_value w.round w.own p.pair)

-- each of the 36 (01, Yaku), whatever the others say; "c" is `w.closed`
unfoldable pub tests_of : Won → FullReading → List Bool
tests_of w p =
    false
    -- 1 "tsumo c1"
    ∷ (w.closed && not w.ron)
    -- 2 "all simples"
    ∷ only w.tally is_simple
    -- 3 "value triplet": it counts at least one
    ∷ ltb 0 (value_han_of w p)
    -- 4 "pinfu c1"
    ∷ pinfu w p
    -- 5 "one twin run (a run held twice or thrice) c1"
    ∷ (w.closed && eqb (twins p.groups) 1)
    -- 6 "chankan"
    ∷ eqb w.situation 2
    -- 7 "rinshan"
    ∷ eqb w.situation 1
    -- 8 "last tile tsumo"
    ∷ (eqb w.situation 3 && not w.ron)
    -- 9 "last tile ron"
    ∷ (eqb w.situation 3 && w.ron)
    -- 10 "riichi c1"
    ∷ (w.closed && eqb w.riichi 1)
    -- 11 "double riichi c2, instead of 10"
    ∷ (w.closed && eqb w.riichi 2)
    -- 12 "seven pairs c2"
    ∷ (w.closed && eqb p.shape 1)
    -- 13 "same run in three suits"
    ∷ in_three_suits 0 p.groups
    -- 14 "123 456 789 of a suit"
    ∷ straight p.groups
    -- 15 "yaochu in every group and pair, a run among them, an honour present"
    ∷ (outside p.groups p.pair && honour_present w.tally)
    -- 16 "same triplet in three suits"
    ∷ in_three_suits 34 p.groups
    -- 17 "four triplets"
    ∷ triplets p.groups
    -- 18 "three concealed triplets"
    ∷ eqb (concealed p.groups p.ways) 3
    -- 19 "three kans"
    ∷ eqb (kans p.ways) 3
    -- 20 "only yaochu"
    ∷ only w.tally is_yaochu
    -- 21 "two twin runs (four equal runs too) c3, instead of 5"
    ∷ (w.closed && eqb (twins p.groups) 2)
    -- 22 "as 15 with no honour"
    ∷ (outside p.groups p.pair && not (honour_present w.tally))
    -- 23 "one suit and honours, both present"
    ∷ half_flush w.tally
    -- 24 "two dragon triplets and a dragon pair"
    ∷ little_dragons p.groups p.pair
    -- 25 "one suit"
    ∷ flush w.tally
    -- 26 "first turn, dealer": its own wind is East
    ∷ (eqb w.situation 4 && eqb w.own 27)
    -- 27 "first turn, other seat"
    ∷ (eqb w.situation 4 && not (eqb w.own 27))
    -- 28 "three dragon triplets"
    ∷ eqb (dragons p.groups) 3
    -- 29 "three wind triplets and a wind pair, or four"
    ∷ four_winds p.groups p.pair
    -- 30 "four concealed triplets c"
    ∷ (w.closed && eqb (concealed p.groups p.ways) 4)
    -- 31 "four kans"
    ∷ eqb (kans p.ways) 4
    -- 32 "honours only, seven pairs too"
    ∷ only w.tally is_honour
    -- 33 "terminals only"
    ∷ only w.tally is_terminal
    -- 34 "only sou 2 3 4 6 8 and hatsu"
    ∷ only w.tally is_green
    -- 35 "m = 0, one suit's 1112345678999 and one more of it"
    ∷ gates w.tally w.meldless
    -- 36 "thirteen orphans"
    ∷ eqb p.shape 2
    ∷ []

-- "Yakuman: 26 .. 36": one is among them
unfoldable pub is_yakuman : List Bool → Bool
is_yakuman y = any 11 (λ i. get_or y (26 + i) false)

-- "With a yakuman only yakuman are listed"
unfoldable pub listed : List Bool → List Bool
listed y = cond (is_yakuman y) (tabulate 37 0 (λ n. leb 26 n && get_or y n false)) y

-- the "yaku set" of a reading (01, Score)
unfoldable pub yaku_of : Won → FullReading → List Bool
yaku_of w p = listed (tests_of w p)

-- "With a yakuman": one is among the yaku of the reading
abbrev pub yakuman : Won → FullReading → Bool
yakuman w p = is_yakuman (yaku_of w p)

-- "with a yaku": one is listed
unfoldable pub has_yaku : List Bool → Bool
has_yaku y = any_below 37 (λ n. get_or y n false)
