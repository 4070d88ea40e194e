-- What document 01 says of the sum of the items.
use Rattle.std.specs.Prelude.{◌≡◌, refl, Bool, true, false, ◌&&◌, not, cond, List, [], ◌∷◌, ℕ, zero, suc, ◌+◌, ◌-◌, ◌*◌, ◌/◌, ◌%◌, ◌<◌, ◌≤◌, eqb, ltb, get_or, set, length}
use Rattle.std.proofs.Common.{sym, ap, ◌∙◌, add-zero, eqb-true, eq-eqb, ne_eqb}
use native.Mathlib.Omega.{arith}
use Rattle.std.proofs.lemmas.Bool.{eqb-false}
use Rattle.tiles.specs.Below.{sum}
use Rattle.tiles.specs.Kinds.{is_yaochu}
use Rattle.tiles.specs.Groups.{is_triplet}
use Rattle.tiles.proofs.laws.Below.{cond_le}
use Rattle.yaku_basics.proofs.laws.Ways.{four, ways_open, group_placed}
use Rattle.yaku_basics.specs.search.Ways.{ways_at}
use Rattle.yaku_basics.specs.Tests.{is_value}
use Rattle.yaku.specs.Yaku.{has_wait_fu, pinfu, yakuman}
use Rattle.yaku.specs.declared.Won.{Won}
use Rattle.yaku.specs.declared.FullReading.{FullReading}
use Rattle.points_fu.specs.Fu.{fu, triplet_fu, group_fu, base_alone, added, rounded, regular_items, items_of, fu_of}
use Rattle.points_fu.specs.search.Items.{items_by, earned}
use Rattle.points_fu.proofs.laws.Up.{rounded_up}

-- from 20 on it adds what is left to the next ten, and an open 20 ten
by_tens : (closed : Bool) (n : ℕ) → 20 ≤ n → rounded closed n ≡ cond (not closed && eqb n 20) 30 (n + (10 - n % 10) % 10)
unfolding rounded
by_tens closed n h = rw (same (eqb n 20) refl, tens) refl
  where
    tens : (n + 9) / 10 * 10 ≡ n + (10 - n % 10) % 10
    tens = omega arith

    same : (b : Bool) → eqb n 20 ≡ b → eqb ((n + 9) / 10 * 10) 20 ≡ eqb n 20
    same true e = rw e (eq-eqb ((n + 9) / 10 * 10) 20 (omega (arith, eqb-true n 20 e)))
    same false e = rw e (ne_eqb ((n + 9) / 10 * 10) 20 (λ q. eqb-false n 20 e (omega (arith, q, h))))

-- what rounding adds is added last
added_rounding : (w : Won) (p : FullReading) (r : ℕ) → added (earned w p r) ≡ added (earned w p 0) + r
unfolding added earned
added_rounding w p r = omega arith

pub added_alone : (n : ℕ) → added (base_alone n) ≡ n
unfolding added
added_alone n = omega arith

module _ (w : Won) (p : FullReading) where
  -- before rounding
  whole : ℕ
  whole = added (earned w p 0)

  abbrev items_sum : ℕ
  items_sum =
      20
      + cond (w.closed && w.ron) 10 0
      + cond (is_value w.round w.own p.pair) 2 0
      + sum 4 (λ i. group_fu (get_or p.groups i 0) (get_or p.ways i 0))
      + cond (has_wait_fu w p) 2 0
      + cond (not w.ron && not (pinfu w p)) 2 0

  pub regular_rounded : regular_items w p ≡ earned w p (rounded w.closed (added (earned w p 0)) - added (earned w p 0))
  unfolding regular_items earned added items_by
  regular_rounded = rw (add-zero items_sum)

  regular : added (regular_items w p) ≡ rounded w.closed whole
  unfolding whole
  regular = rw regular_rounded (omega (arith, added_rounding w p (rounded w.closed whole - whole), rounded_up w.closed whole))

  by_case : (y seven : Bool) →
      added (cond y (base_alone 0) (cond seven (base_alone 25) (regular_items w p))) ≡ cond y 0 (cond seven 25 (rounded w.closed whole))
  by_case true seven = added_alone 0
  by_case false true = added_alone 25
  by_case false false = regular

  pub fu_of_sum : fu_of w p ≡ cond (yakuman w p) 0 (cond (eqb p.shape 1) 25 (rounded w.closed (added (earned w p 0))))
  unfolding items_of fu_of whole
  fu_of_sum = by_case (yakuman w p) (eqb p.shape 1)

  -- without what rounding adds
  unrounded : added (regular_items w p) - (regular_items w p).rounding.0 ≡ whole
  unfolding whole earned
  unrounded =
      let r = rounded w.closed whole in
      rw regular_rounded (less_more (added (earned w p (r - whole))) whole (r - whole) (added_rounding w p (r - whole)))
    where
      less_more : (a b r : ℕ) → a ≡ b + r → a - r ≡ b
      less_more a b r e = omega (arith, e)

  -- the nine items come to 20 or more
  base_in : 20 ≤ whole
  unfolding whole earned added
  base_in = omega arith

  by_rest : (y seven : Bool) →
      let i = cond y (base_alone 0) (cond seven (base_alone 25) (regular_items w p)) in
      let n = added i - i.rounding.0 in
      added i ≡ cond y 0 (cond seven 25 (cond (not w.closed && eqb n 20) 30 (n + (10 - n % 10) % 10)))
  by_rest true seven = added_alone 0
  by_rest false true = added_alone 25
  by_rest false false =
      regular ∙ by_tens w.closed whole base_in ∙ ap (λ n. cond (not w.closed && eqb n 20) 30 (n + (10 - n % 10) % 10)) (sym unrounded)

  pub fu_rounded :
      let n = fu_of w p - (items_of w p).rounding.0 in
      fu_of w p ≡ cond (yakuman w p) 0 (cond (eqb p.shape 1) 25 (cond (not w.closed && eqb n 20) 30 (n + (10 - n % 10) % 10)))
  unfolding items_of fu_of
  fu_rounded = by_rest (yakuman w p) (eqb p.shape 1)

-- no group earns over 32
triplet_few : (way : ℕ) → triplet_fu way ≤ 16
unfolding triplet_fu
triplet_few way =
    cond_le (eqb way 0) 4 (cond (eqb way 1) 2 (cond (eqb way 2) 8 16)) 16 (omega arith)
    (cond_le (eqb way 1) 2 (cond (eqb way 2) 8 16) 16 (omega arith) (cond_le (eqb way 2) 8 16 16 (omega arith) (omega arith)))

group_few : (c way : ℕ) → group_fu c way ≤ 32
unfolding group_fu
group_few c way =
    let t = triplet_few way in
    cond_le (is_triplet c) (cond (is_yaochu (c - 34)) (2 * triplet_fu way) (triplet_fu way)) 0 32
    (cond_le (is_yaochu (c - 34)) (2 * triplet_fu way) (triplet_fu way) 32 (omega (arith, t)) (omega (arith, t))) (omega arith)

pub groups_few : (p : FullReading) → sum 4 (λ k. (get_or (items_by p.groups p.ways) k (fu 0)).0) ≤ 128
unfolding items_by
groups_few p =
    let f : (i : ℕ) → group_fu (get_or p.groups i 0) (get_or p.ways i 0) ≤ 32 = λ i. group_few (get_or p.groups i 0) (get_or p.ways i 0) in
    omega (arith, f 0, f 1, f 2, f 3)

-- what is earned where the group at i is open
items_four : (g : List ℕ) (a b c d i : ℕ) → i < 4
    → set (items_by g (a ∷ b ∷ c ∷ d ∷ [])) i (fu (group_fu (get_or g i 0) 1)) ≡ items_by g (set (a ∷ b ∷ c ∷ d ∷ []) i 1)
unfolding items_by
items_four g a b c d zero h = refl
items_four g a b c d (suc zero) h = refl
items_four g a b c d (suc (suc zero)) h = refl
items_four g a b c d (suc (suc (suc zero))) h = refl
items_four g a b c d (suc (suc (suc (suc i)))) h = absurd (omega (arith, h))

pub items_ron : (g ways : List ℕ) → length ways ≡ 4 → (ron : Bool) (place : ℕ) → place ≤ 4 → ron && ltb 0 place ≡ true
    → set (items_by g ways) (place - 1) (fu (group_fu (get_or g (place - 1) 0) 1)) ≡ items_by g (ways_at ways ron place)
items_ron g ways l ron place few e =
    rw (ways_open ways ron place e, four 0 ways l)
    (items_four g (get_or ways 0 0) (get_or ways 1 0) (get_or ways 2 0) (get_or ways 3 0) (place - 1) (omega (arith, few, group_placed ron place e)))
