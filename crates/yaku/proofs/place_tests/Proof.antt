-- `yaku::place_tests` meets its contract: yaku 4 asks of the place that it earns no wait fu.
use Prim.Native.Nat.{ℕ, ◌-◌}
use mathlib.Core.Path.{◌≡◌, refl}
use mathlib.Core.Bool.{Bool, true, false, ◌&&◌, ◌||◌, not}
use borrow.Author.Rules.{rules}
use lib.ListN.{get_or}
use lib.Dec.{eqb}
use Rattle.tiles.specs.Below.{all}
use Rattle.tiles.specs.Groups.{is_run}
use Rattle.yaku_basics.specs.Tests.{is_value, earns_wait, concealed, kans}
use Rattle.yaku.specs.declared.Won.{Won}
use Rattle.yaku.specs.declared.FullReading.{FullReading}
use Rattle.yaku.specs.declared.GroupTests.{GroupTests}
use Rattle.yaku.specs.Yaku.{pinfu, tests_of, is_yakuman, has_yaku}
use Rattle.yaku.proofs.laws.Common.{yakuman_with, any_with}
use Rattle.yaku.specs.search.Common.{group_tests_of, place_tests_of}
use Rattle.yaku.proofs.place_tests.Statement.{statement}
use Rattle.yaku.proofs.place_tests.Tie as tie

-- the place may be asked last
last : (a b v w : Bool) → (a && b && not v) && not w ≡ a && b && not w && not v
last a b v true = none (a && b) (not v)
  where
    none : (x y : Bool) → (x && y) && false ≡ (x && false) && y
    none true true = refl
    none true false = refl
    none false y = refl
last a b v false = some (a && b) (not v)
  where
    some : (x y : Bool) → (x && y) && true ≡ (x && true) && y
    some true true = refl
    some true false = refl
    some false y = refl

module _ (w : Won) (p : FullReading) (k : GroupTests) (x : Bool) (h n : ℕ) (ek : k ≡ group_tests_of w p.shape p.pair p.groups)
    (ex : x ≡ earns_wait p.place (get_or p.groups (p.place - 1) 0) w.win) (eh : h ≡ concealed p.groups p.ways) (en : n ≡ kans p.ways) where
  fourth : k.runs && not x ≡ get_or (tests_of w p) 4 false
  unfolding group_tests_of tests_of pinfu
  fourth =
      rw (ex, ek)
      (last w.closed (all 4 (λ i. is_run (get_or p.groups i 0))) (is_value w.round w.own p.pair)
      (earns_wait p.place (get_or p.groups (p.place - 1) 0) w.win))

  yakuman_is : k.yakuman || ((w.closed && eqb h 4) || eqb n 4) ≡ is_yakuman (tests_of w p)
  unfolding group_tests_of tests_of
  yakuman_is = rw (ek, eh, en) (yakuman_with w p)

  any_is : k.any || ((k.runs && not x) || eqb h 3 || eqb n 3 || (w.closed && eqb h 4) || eqb n 4) ≡ has_yaku (tests_of w p)
  unfolding group_tests_of tests_of
  any_is = rw (fourth, ek, eh, en) (any_with w p)

  by_place : record {
    wait = x;
    pinfu = k.runs && not x;
    ankou = h;
    kan = n;
    yakuman = k.yakuman || ((w.closed && eqb h 4) || eqb n 4);
    any = k.any || ((k.runs && not x) || eqb h 3 || eqb n 3 || (w.closed && eqb h 4) || eqb n 4);
  } ≡ place_tests_of w p
  unfolding place_tests_of tests_of
  by_place = rw (any_is, yakuman_is, fourth, ex, eh, en)

pub place_tests_spec : {M : Type 1} → statement M
place_tests_spec =
    tie.close
    (tie.spec (λ c κs. search rules) (λ c κs. search rules)
    (λ c.
    let all-ankou = c.before.before in let e = all-ankou.before.before in
    let g = e.before.before in let s = g.before in
    by_place s.args.w s.args.p s.args.k e.earns_wait-wait.result s.args.ankou s.args.kan
    s.requires.0 (rw (← e.before.placed.ensures) e.earns_wait-wait.ensures) s.requires.1.0 s.requires.1.1))
