-- Fu, item by item, and their sum, which is the fu of a reading (01, "Fu: 20; closed ron +10; value pair 2 (double wind also 2); .."; 02, S-3).
use Rattle.std.specs.Prelude.{Bool, ◌&&◌, not, cond, ℕ, ◌+◌, ◌-◌, ◌*◌, ◌/◌, get_or, replicate, eqb}
use Rattle.tiles.specs.Below.{sum, tabulate}
use Rattle.tiles.specs.Kinds.{is_yaochu}
use Rattle.tiles.specs.Groups.{is_triplet}
use Rattle.yaku_basics.specs.Tests.{is_value}
use Rattle.yaku.specs.Yaku.{has_wait_fu, pinfu, yakuman}
use Rattle.yaku.specs.declared.Won.{Won}
use Rattle.yaku.specs.declared.FullReading.{FullReading}
use Rattle.units.specs.declared.Fu.{Fu}
use Rattle.points_fu.specs.declared.Items.{Items}

-- "Han, fu and points are the rules' three units": n fu
abbrev pub fu : ℕ → Fu
fu n = record { 0 = n }

-- "triplets, simple/yaochu: open 2/4, concealed 4/8, open kan 8/16, closed kan 16/32": of simples
unfoldable pub triplet_fu : ℕ → ℕ
triplet_fu way = cond (eqb way 0) 4 (cond (eqb way 1) 2 (cond (eqb way 2) 8 16))

-- "simple/yaochu": a triplet of yaochu twice that, and a run nothing
unfoldable pub group_fu : ℕ → ℕ → ℕ
group_fu c way = cond (is_triplet c) (cond (is_yaochu (c - 34)) (2 * triplet_fu way) (triplet_fu way)) 0

-- "Round up to tens. An open 20 becomes 30."
unfoldable pub rounded : Bool → ℕ → ℕ
rounded closed n = cond (not closed && eqb ((n + 9) / 10 * 10) 20) 30 ((n + 9) / 10 * 10)

-- the items of a regular reading: base, closed ron, pair, "each of the four groups (the reading's in its order, then the melds in the record's)",
-- which is the order of p, wait, tsumo, and "what rounding added (an open 20's ten too)" (02, S-3)
unfoldable pub regular_items : Won → FullReading → Items
regular_items w p =
    -- "closed ron +10"
    let ron : ℕ = cond (w.closed && w.ron) 10 0 in
    -- "value pair 2 (double wind also 2)"
    let pair : ℕ = cond (is_value w.round w.own p.pair) 2 0 in
    -- "triplets, simple/yaochu: .."
    let group : ℕ → ℕ = λ i. group_fu (get_or p.groups i 0) (get_or p.ways i 0) in
    -- "wait on pair, middle of a run, 3 of 123 or 7 of 789: 2"
    let wait : ℕ = cond (has_wait_fu w p) 2 0 in
    -- "tsumo 2, none with pinfu"
    let tsumo : ℕ = cond (not w.ron && not (pinfu w p)) 2 0 in
    -- "Fu: 20" and these
    let unrounded : ℕ = 20 + ron + pair + sum 4 group + wait + tsumo in
    let rounding : ℕ = rounded w.closed unrounded - unrounded in
    record { base = fu 20; ron = fu ron; pair = fu pair; group = tabulate 4 0 (λ i. fu (group i)); wait = fu wait; tsumo = fu tsumo; rounding = fu rounding }

-- "a base of 25 alone", "only zeros" (02, S-3): all other items are 0
abbrev pub base_alone : ℕ → Items
base_alone n = record { base = fu n; ron = fu 0; pair = fu 0; group = replicate 4 (fu 0); wait = fu 0; tsumo = fu 0; rounding = fu 0 }

-- the items of any reading: "seven pairs having a base of 25 alone and yakuman only zeros" (02, S-3)
unfoldable pub items_of : Won → FullReading → Items
items_of w p = cond (yakuman w p) (base_alone 0) (cond (eqb p.shape 1) (base_alone 25) (regular_items w p))

-- the sum of the items: "The items add up to the fu reported" (02, S-3)
unfoldable pub added : Items → ℕ
added i =
    i.base.0 + i.ron.0 + i.pair.0 + sum 4 (λ k. (get_or i.group k (fu 0)).0) + i.wait.0 + i.tsumo.0 + i.rounding.0

-- "Everything that called for the total now takes it from the items" (02, S-3): the fu of a reading; theorem `fu_rounded` of `points_value` says of it what
-- document 01 does
unfoldable pub fu_of : Won → FullReading → ℕ
fu_of w p = added (items_of w p)
