-- h of a reading from that of its pair and groups: the han of the yaku that go by the place or the ways are added.
use Rattle.std.specs.Prelude.{◌≡◌, Bool, true, false, cond, List, ℕ, ◌+◌, get_or}
use Rattle.std.proofs.Math.Path.{refl}
use native.Mathlib.Omega.{arith}
use Rattle.tiles.specs.Below.{sum_below}
use Rattle.yaku.specs.Yaku.{value_han_of, pinfu, tests_of, is_yakuman, yaku_of}
use Rattle.yaku.proofs.laws.Common.{listed_all, same_each, yakuman_tested}
use Rattle.yaku.specs.search.Common.{any_place, group_tests_of}
use Rattle.yaku.specs.declared.Won.{Won}
use Rattle.yaku.specs.declared.FullReading.{FullReading}
use Rattle.points_value.specs.Han.{yaku_han, han_of}
use Rattle.points_value.proofs.laws.Han.{fixed_han, han_by, none, values_apart}
use Rattle.points_value.specs.search.Common.{han_before}

-- the han that the yaku of the place and the ways add to a list without them
with_place : (y : List Bool) (han : List ℕ) → han_by y han ≡ han_by (any_place y) han
    + cond (get_or y 4 false) (get_or han 4 0) 0 + cond (get_or y 18 false) (get_or han 18 0) 0 + cond (get_or y 19 false) (get_or han 19 0) 0
    + cond (get_or y 30 false) (get_or han 30 0) 0 + cond (get_or y 31 false) (get_or han 31 0) 0
unfolding han_by sum_below any_place
with_place y han = omega arith

-- of those yaku 4 is closed only, 18 and 19 have two han, and the yakuman 30 and 31 none
their_han : (closed a b c d e : Bool) → (closed ≡ false → a ≡ false)
    → cond a (get_or (fixed_han closed) 4 0) 0 + cond b (get_or (fixed_han closed) 18 0) 0
    + cond c (get_or (fixed_han closed) 19 0) 0 + cond d (get_or (fixed_han closed) 30 0) 0
    + cond e (get_or (fixed_han closed) 31 0) 0
    ≡ cond a 1 0 + cond b 2 0 + cond c 2 0
their_han true a b c d e h = omega (arith, none d, none e)
their_han false a b c d e h = rw (h refl) (omega (arith, none d, none e))

module _ (w : Won) (p : FullReading) where
  abbrev y : List Bool
  y = tests_of w p

  group_yaku : (group_tests_of w p.shape p.pair p.groups).yaku ≡ any_place y
  unfolding group_tests_of
  group_yaku = same_each w p

  group_values : (group_tests_of w p.shape p.pair p.groups).values.0 ≡ value_han_of w p
  unfolding group_tests_of
  group_values = refl

  third : get_or (any_place y) 3 false ≡ get_or y 3 false
  unfolding any_place
  third = refl

  open_none : w.closed ≡ false → get_or y 4 false ≡ false
  unfolding tests_of pinfu
  open_none e = rw e

  all_han : (dora : ℕ) → han_before w dora p.shape p.pair p.groups + cond (get_or y 4 false) 1 0 + cond (get_or y 18 false) 2 0 + cond (get_or y 19 false) 2 0
      ≡ yaku_han y w.closed (value_han_of w p) + get_or w.tally dora 0
  unfolding han_before
  all_han dora =
      let before = values_apart (any_place y) w.closed (value_han_of w p) in
      let after = values_apart y w.closed (value_han_of w p) in
      rw (group_yaku, group_values, before, after, third)
      (omega (
        arith,
        with_place y (fixed_han w.closed),
        their_han w.closed (get_or y 4 false) (get_or y 18 false) (get_or y 19 false) (get_or y 30 false) (get_or y 31 false) open_none,
      ))

  yaku_all : is_yakuman y ≡ false → yaku_of w p ≡ y
  unfolding yaku_of
  yaku_all e = listed_all y e

  by_yakuman : (dora : ℕ) (b : Bool) → is_yakuman y ≡ b
      → cond b 0 (han_before w dora p.shape p.pair p.groups + cond (get_or y 4 false) 1 0 + cond (get_or y 18 false) 2 0 + cond (get_or y 19 false) 2 0)
      ≡ cond b 0 (yaku_han (yaku_of w p) w.closed (value_han_of w p) + get_or w.tally dora 0)
  by_yakuman dora true e = refl
  by_yakuman dora false e = rw (yaku_all e) (all_han dora)

  -- h, from that of the pair and the groups
  pub han_with : (dora : ℕ)
      → cond (is_yakuman y) 0
      (han_before w dora p.shape p.pair p.groups + cond (get_or y 4 false) 1 0 + cond (get_or y 18 false) 2 0 + cond (get_or y 19 false) 2 0)
      ≡ han_of w p dora
  unfolding han_of
  han_with dora = rw (yakuman_tested w p) (by_yakuman dora (is_yakuman y) refl)
