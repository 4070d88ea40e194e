-- `yaku::group_tests` meets its contract: each place is what its test ensures.
use mathlib.Core.Path.{◌≡◌, refl, ap}
use mathlib.Core.Bool.{Bool}
use mathlib.Core.List.{List}
use borrow.Author.Rules.{rules}
use Rattle.units.specs.declared.Han.{Han}
use Rattle.yaku_tiles.specs.search.TileTests.{tile_tests_of}
use Rattle.yaku_tiles.specs.declared.TileTests.{TileTests}
use Rattle.yaku.specs.Yaku.{tests_of, is_yakuman, has_yaku}
use Rattle.yaku.specs.declared.GroupTests.{GroupTests}
use Rattle.yaku.specs.search.Common.{any_place, group_tests_of}
use Rattle.yaku.proofs.laws.Lists.{six}
use Rattle.yaku.proofs.group_tests.Statement.{statement}
use Rattle.yaku.proofs.group_tests.Tie as tie

module _ {y y' : List Bool} {b a : Bool} {h h' : Han} {r r' v v' : Bool} where
  same : y ≡ y' → b ≡ is_yakuman y → a ≡ has_yaku y → h ≡ h' → r ≡ r' → v ≡ v'
      → ◌≡◌ {A = GroupTests} (record { yaku = y; yakuman = b; any = a; values = h; runs = r; value = v })
      (record { yaku = y'; yakuman = is_yakuman y'; any = has_yaku y'; values = h'; runs = r'; value = v' })
  same p m n q s t = rw (m, n, p, q, s, t)

returns : tie.Need-returns
unfolding tests_of tile_tests_of any_place group_tests_of
returns c =
    let last = c.before.before in
    let winds = last.before in
    let dragons = winds.before in
    let triplets = dragons.before.before in
    let three = triplets.before in
    let straight = three.before.before in
    let runs = straight.before in
    let worthy = runs.before.before in
    let outside = worthy.before in
    let twin = outside.before in
    let counted = twin.before in
    let low = counted.before in
    let tiles = low.before.requires.0 in
    let little = low.little_dragons-little.ensures in
    let values = counted.value_han-values.ensures.0 in
    let twins = twin.twins-twin.ensures in
    let far = outside.outside-outside.ensures in
    let value = worthy.is_value-value.ensures in (
      same
          -- 0 to 5
          (six refl refl (ap (λ (x : TileTests). x.simples) tiles) (rw (values, little)) refl (rw twins)
          -- 6 to 11
          (six refl refl refl refl refl refl
          -- 12 to 17
          (six refl runs.in_three_suits.ensures straight.straight.ensures
          (rw (far, ap (λ (x : TileTests). x.honour) tiles)) three.in_three_suits-2.ensures triplets.triplets.ensures
          -- 18 to 23
          (six refl refl (ap (λ (x : TileTests). x.yaochus) tiles) (rw twins)
          (rw (far, ap (λ (x : TileTests). x.honour) tiles)) (ap (λ (x : TileTests). x.half) tiles)
          -- 24 to 29
          (six little (ap (λ (x : TileTests). x.flush) tiles) refl refl (rw dragons.dragons.ensures.0)
          winds.four_winds.ensures
          -- 30 to 35
          (six refl refl (ap (λ (x : TileTests). x.honours) tiles) (ap (λ (x : TileTests). x.terminals) tiles)
          (ap (λ (x : TileTests). x.greens) tiles) (ap (λ (x : TileTests). x.gates) tiles) refl))))))
          c.before.is_yakuman-yakuman.ensures
          c.has_yaku-any.ensures
          (rw (values, little))
          (rw (last.may_be_pinfu-runs.ensures, value))
          value,
      counted.value_han-values.ensures.1,
    )

pub group_tests_spec : {M : Type 1} → statement M
group_tests_spec =
    tie.close
    (tie.spec
    (λ c κs. search rules) (λ c κs. search rules) (λ c κs. search rules) (λ c κs. search rules)
    (λ c κs. search rules) (λ c κs. search rules) (λ c κs. search rules) (λ c κs. search rules)
    (λ c κs. search rules) (λ c κs. search rules) (λ c κs. search rules) (λ c κs. search rules)
    (λ c κs. search rules) (λ c κs. search rules) returns)
