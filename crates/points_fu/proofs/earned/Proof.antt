-- `points_fu::earned` meets its contract: each item is what its function ensures.
use borrow.Author.Rules.{rules}
use native.Mathlib.Omega.{arith}
use mathlib.Core.Path.{◌≡◌, ap}
use mathlib.Core.List.{List}
use Prim.Native.Nat.{◌≤◌}
use lib.ListN.{get_or}
use Rattle.tiles.specs.Below.{sum}
use Rattle.units.specs.declared.Fu.{Fu}
use Rattle.yaku.specs.declared.FullReading.{FullReading}
use Rattle.yaku.specs.declared.GroupTests.{GroupTests}
use Rattle.yaku.specs.declared.PlaceTests.{PlaceTests}
use Rattle.yaku.specs.search.Common.{group_tests_of, place_tests_of}
use Rattle.points_fu.specs.Fu.{fu, added}
use Rattle.points_fu.specs.search.Items.{items_by, earned}
use Rattle.points_fu.proofs.laws.Items.{groups_few}
use Rattle.points_fu.proofs.earned.Statement.{statement}
use Rattle.points_fu.proofs.earned.Tie as tie

few : (p : FullReading) (l : List Fu) → l ≡ items_by p.groups p.ways → sum 4 (λ k. (get_or l k (fu 0)).0) ≤ 128
few p l e = rw e (groups_few p)

returns : tie.Need-returns
unfolding group_tests_of place_tests_of earned added
returns c =
    let known = c.before in
    let at-wait = known.before.before in
    let at_pair = at-wait.before in
    let at-ron = at_pair.before in
    let start = at-ron.before.before in
    let ron = at-ron.fu_if-ron.ensures in
    let pair = at_pair.fu_if-pair.ensures in
    let wait = at-wait.fu_if-wait.ensures in
    let tsumo = c.fu_if-tsumo.ensures in (
      rw (
        ron.0,
        pair.0,
        ap (λ (k : GroupTests). k.value) start.requires.0,
        start.requires.1.1,
        wait.0,
        ap (λ (q : PlaceTests). q.wait) start.requires.1.0,
        tsumo.0,
        ap (λ (q : PlaceTests). q.pinfu) start.requires.1.0,
      ),
      omega (arith, ron.1, pair.1, few start.args.p start.args.group start.requires.1.1, wait.1, tsumo.1),
    )

pub earned_spec : {M : Type 1} → statement M
earned_spec =
    tie.close
    (tie.spec (λ c κs. search rules) (λ c κs. search rules) (λ c κs. search rules) (λ c κs. search rules) returns)
