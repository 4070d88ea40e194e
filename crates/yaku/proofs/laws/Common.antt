-- Whether a yaku or a yakuman is among the tests of a reading: among those at each place, or those that go by the place or the ways; and as it is listed.
use Rattle.std.specs.Prelude.{◌≡◌, Bool, ◌&&◌, ◌||◌, not, cond, List, ℕ, zero, suc, ◌+◌, leb}
use Rattle.std.proofs.Math.Path.{refl, sym, ap}
use Rattle.std.proofs.Common.{◌∙◌, arith}
use Rattle.std.proofs.Math.Bool.{true, false, or-true, or-false}
use Rattle.std.proofs.Math.ListN.{get_or}
use Rattle.tiles.specs.Below.{any, any_below, tabulate}
use Rattle.tiles.proofs.laws.Below.{any_at, any_of}
use Rattle.yaku.specs.Yaku.{tests_of, is_yakuman, listed, yaku_of, yakuman, has_yaku}
use Rattle.yaku.specs.declared.Won.{Won}
use Rattle.yaku.specs.declared.FullReading.{FullReading}
use Rattle.yaku.specs.declared.PlaceTests.{PlaceTests}
use Rattle.yaku.specs.search.Common.{by_place, any_place, at_each, place_tests_of}

one_more : (q a b x : Bool) → a || b || x ≡ (a || (not q && x)) || (b || (q && x))
one_more q true b x = refl
one_more true false b x = refl
one_more false false true x = sym (or-true x)
one_more false false false x = sym (or-false x)

-- a test by two parts of the numbers
parted : (p q : ℕ → Bool) (n : ℕ) → any n p ≡ any n (λ i. not (q i) && p i) || any n (λ i. q i && p i)
parted p q zero = refl
parted p q (suc n) =
    ap (λ (b : Bool). b || p n) (parted p q n) ∙ one_more (q n) (any n (λ i. not (q i) && p i)) (any n (λ i. q i && p i)) (p n)

module _ (y : List Bool) where
  pub any_part : has_yaku y ≡ has_yaku (any_place y) || (get_or y 4 false || get_or y 18 false || get_or y 19 false || get_or y 30 false || get_or y 31 false)
  unfolding has_yaku any_below any_place
  any_part = parted (λ n. get_or y n false) by_place 37 ∙ simp or-false

  pub yakuman_part : is_yakuman y ≡ is_yakuman (any_place y) || (get_or y 30 false || get_or y 31 false)
  unfolding is_yakuman any_place
  yakuman_part = parted (λ i. get_or y (26 + i) false) (λ i. by_place (26 + i)) 11 ∙ simp or-false

  abbrev alone : List Bool
  alone = tabulate 37 0 (λ n. leb 26 n && get_or y n false)

  some_yakuman : is_yakuman y ≡ true → has_yaku y ≡ true
  unfolding is_yakuman has_yaku any_below
  some_yakuman e =
      let i = any_at (λ i. get_or y (26 + i) false) 11 e in
      any_of (λ n. get_or y n false) 37 (26 + i.0) (omega (arith, i.1)) i.2

  yakuman_by : (b : Bool) → is_yakuman (cond b alone y) ≡ is_yakuman y
  unfolding is_yakuman
  yakuman_by true = refl
  yakuman_by false = refl

  any_by : (b : Bool) → is_yakuman y ≡ b → has_yaku (cond b alone y) ≡ has_yaku y
  unfolding is_yakuman has_yaku any_below
  any_by true e = e ∙ sym (some_yakuman e)
  any_by false e = refl

  pub listed_yakuman : is_yakuman (listed y) ≡ is_yakuman y
  unfolding listed
  listed_yakuman = yakuman_by (is_yakuman y)

  pub listed_any : has_yaku (listed y) ≡ has_yaku y
  unfolding listed
  listed_any = any_by (is_yakuman y) refl

  all_by : (b : Bool) → b ≡ false → cond b alone y ≡ y
  all_by b e = rw e

  -- where no yakuman is among them, each test that holds is listed
  pub listed_all : is_yakuman y ≡ false → listed y ≡ y
  unfolding listed
  listed_all e = all_by (is_yakuman y) e

-- the tests of a reading, from those of its pair and groups
module _ (w : Won) (p : FullReading) where
  abbrev each : List Bool
  each = at_each w p.shape p.pair p.groups

  -- test n of the reading
  abbrev at : ℕ → Bool
  at n = get_or (tests_of w p) n false

  pub same_each : each ≡ any_place (tests_of w p)
  unfolding tests_of any_place
  same_each = refl

  pub yakuman_with : is_yakuman each || (at 30 || at 31) ≡ is_yakuman (tests_of w p)
  yakuman_with = ap (λ (l : List Bool). is_yakuman l || (at 30 || at 31)) same_each ∙ sym (yakuman_part (tests_of w p))

  pub any_with : has_yaku each || (at 4 || at 18 || at 19 || at 30 || at 31) ≡ has_yaku (tests_of w p)
  any_with = ap (λ (l : List Bool). has_yaku l || (at 4 || at 18 || at 19 || at 30 || at 31)) same_each ∙ sym (any_part (tests_of w p))

  pub yakuman_tested : yakuman w p ≡ is_yakuman (tests_of w p)
  unfolding yaku_of
  yakuman_tested = listed_yakuman (tests_of w p)

  pub yakuman_placed : (q : PlaceTests) → q ≡ place_tests_of w p → q.yakuman ≡ yakuman w p
  unfolding place_tests_of
  yakuman_placed q e = ap (λ (x : PlaceTests). x.yakuman) e ∙ sym yakuman_tested
