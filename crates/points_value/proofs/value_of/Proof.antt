-- `points_value::value_of` meets its contract.
use borrow.Author.Rules.{rules}
use mathlib.Core.Path.{◌≡◌, sym, ap, ◌∙◌}
use mathlib.Core.Bool.{cond}
use mathlib.Core.List.{List}
use Prim.Native.Nat.{ℕ, ◌+◌}
use lib.Dec.{eqb}
use Rattle.yaku.specs.Yaku.{tests_of, yaku_of, has_yaku}
use Rattle.yaku.specs.declared.Won.{Won}
use Rattle.yaku.specs.declared.FullReading.{FullReading}
use Rattle.yaku.specs.declared.PlaceTests.{PlaceTests}
use Rattle.yaku.specs.search.Common.{place_tests_of}
use Rattle.yaku.proofs.laws.Common.{yakuman_placed, listed_any}
use Rattle.units.specs.declared.Fu.{Fu}
use Rattle.yaku_basics.specs.Tests.{concealed, kans}
use Rattle.points_fu.specs.Fu.{fu_of}
use Rattle.points_fu.specs.search.Items.{items_by}
use Rattle.points_value.specs.Han.{han_of}
use Rattle.points_value.specs.Value.{value_of}
use Rattle.points_value.specs.search.Common.{han_before}
use Rattle.points_value.proofs.laws.Common.{han_with}
use Rattle.points_value.proofs.value_of.Statement.{statement}
use Rattle.points_value.proofs.value_of.Tie as tie

-- by what the place says
module _ (w : Won) (p : FullReading) (q : PlaceTests) (e : q ≡ place_tests_of w p) where
  any_is : q.any ≡ has_yaku (yaku_of w p)
  unfolding place_tests_of yaku_of
  any_is = ap (λ (x : PlaceTests). x.any) e ∙ sym (listed_any (tests_of w p))

  han_is : (dora before h : ℕ) → before ≡ han_before w dora p.shape p.pair p.groups
      → h ≡ cond q.yakuman 0 (before + cond q.pinfu 1 0 + cond (eqb q.ankou 3) 2 0 + cond (eqb q.kan 3) 2 0) → h ≡ han_of w p dora
  unfolding place_tests_of tests_of
  han_is dora before h eb eh = rw (eh, eb, e) (han_with w p dora)

-- what the groups earn by the ways of p
earned_is : (p : FullReading) (ways : List ℕ) (l : List Fu) → p.ways ≡ ways → l ≡ items_by p.groups ways → l ≡ items_by p.groups p.ways
earned_is p ways l ew el = rw (el, ← ew)

-- the start, from after kans_at, and from after place_tests
abbrev from_kans : tie.After-kans_at-kan → tie.Start
from_kans c = let concealed-at = c.before in let gs = concealed-at.before in gs.before.before

abbrev start : tie.After-place_tests-q → tie.Start
start c = let items_at = c.before in from_kans items_at.before.before

returns : tie.Need-returns
unfolding value_of fu_of
returns c =
    let at-gain = c.before in
    let at-basic = at-gain.before in
    let at_Added = at-basic.before in
    let at-items = at_Added.before in
    let at-han = at-items.before in
    let q = at-han.before.place_tests-q in
    let s = start at-han.before in
    let m = yakuman_placed s.args.w s.args.p q.result q.ensures in
    let a = s.args in
    let h =
    han_is a.w a.p q.result q.ensures a.dora a.k.han.0 at-han.hand_han-h.result.0 s.requires.0.han at-han.hand_han-h.ensures.0 in (
      rw (
        ← m,
        ← c.yaku_of-y.ensures,
        ← h,
        ← at-items.items_of-items.ensures.0,
        ← at_Added.added-f.ensures,
        ← at-basic.basic-a.ensures.0,
        ← at-gain.gain-g.ensures.0,
      ),
      (m, any_is s.args.w s.args.p q.result q.ensures),
    )

pub value_of_spec : {M : Type 1} → statement M
value_of_spec =
    tie.close
    (tie.spec
    (λ c κs. let s = c.before.before in (s.requires.0.ankou, s.requires.1.1))
    (λ c κs. let gs = c.before in let s = gs.before.before in (s.requires.0.kan, s.requires.1.1))
    (λ c κs. let s = from_kans c.before in (s.requires.0.items, s.requires.1.1))
    (λ c κs.
    let k = c.before.before in
    let h = k.before in
    let s = from_kans k in
    let w = sym s.requires.1.0 in
    (s.requires.0.tests, (h.concealed_at-ankou.ensures ∙ ap (concealed s.args.p.groups) w, k.kans_at-kan.ensures ∙ ap kans w, s.requires.1.1)))
    (λ c κs. (start c).requires.0.few)
    (λ c κs.
    let q = c.before in
    let i = q.before in
    let s = start q in
    (s.requires.0.tests, (q.place_tests-q.ensures, earned_is s.args.p _ i.items_at-group.result s.requires.1.0 i.items_at-group.ensures)))
    (λ c κs. search rules) (λ c κs. search rules) (λ c κs. search rules)
    (λ c κs.
    let at_Added = c.before.before in
    let at-han = at_Added.before.before in
    let q = at-han.before in
    ((start q).requires.0.tests, q.place_tests-q.ensures))
    returns)
