-- `yaku_tiles::tile_tests` meets its contract: each set of sorts is what its name says.
use borrow.Author.Rules.{rules}
use mathlib.Core.Bool.{◌||◌}
use mathlib.Core.Path.{refl, ◌∙◌}
use Rattle.tiles.specs.Below.{all_below}
use Rattle.tiles.specs.Kinds.{in_suit, is_number, is_honour, is_terminal, is_yaochu, is_simple}
use Rattle.yaku_tiles.specs.OfTiles.{is_green, half_flush, flush}
use Rattle.yaku_tiles.specs.search.TileTests.{tile_tests_of}
use Rattle.yaku_tiles.proofs.laws.Sorts.{only_within}
use Rattle.yaku_tiles.proofs.tile_tests.Statement.{statement}
use Rattle.yaku_tiles.proofs.tile_tests.Tie as tie

-- the suits that are given to `gates`
suits : tie.Need-gates-requires
unfolding all_below
suits c κs =
    let yaochu = c.before.before in
    let sou-honour = yaochu.before.before in
    let man-honour = sou-honour.before.before in
    let number = man-honour.before.before in
    let sou = number.before in
    let pin = sou.before in
    let man = pin.before in
    let t = man.before.before.args.t in
    let x = man.before.sorts-x.result in
    let s = man.before.sorts-x.ensures in (
      man.only-man.ensures ∙ only_within t x (in_suit 0) s refl,
      pin.only-pin.ensures ∙ only_within t x (in_suit 1) s refl,
      sou.only-sou.ensures ∙ only_within t x (in_suit 2) s refl,
    )

returns : tie.Need-returns
unfolding tile_tests_of half_flush flush all_below
returns c =
    let green = c.before in
    let terminal = green.before in
    let yaochu = terminal.before in
    let simple = yaochu.before in
    let sou-honour = simple.before in
    let pin-honour = sou-honour.before in
    let man-honour = pin-honour.before in
    let honour = man-honour.before in
    let number = honour.before in
    let sou = number.before in
    let pin = sou.before in
    let man = pin.before in
    let t = man.before.before.args.t in
    let x = man.before.sorts-x.result in
    let s = man.before.sorts-x.ensures in
    rw (
      man.only-man.ensures ∙ only_within t x (in_suit 0) s refl,
      pin.only-pin.ensures ∙ only_within t x (in_suit 1) s refl,
      sou.only-sou.ensures ∙ only_within t x (in_suit 2) s refl,
      number.only-numbers.ensures ∙ only_within t x is_number s refl,
      honour.only-honours.ensures ∙ only_within t x is_honour s refl,
      man-honour.only.ensures ∙ only_within t x (λ k. in_suit 0 k || is_honour k) s refl,
      pin-honour.only-2.ensures ∙ only_within t x (λ k. in_suit 1 k || is_honour k) s refl,
      sou-honour.only-3.ensures ∙ only_within t x (λ k. in_suit 2 k || is_honour k) s refl,
      simple.only-4.ensures ∙ only_within t x is_simple s refl,
      yaochu.only-5.ensures ∙ only_within t x is_yaochu s refl,
      terminal.only-6.ensures ∙ only_within t x is_terminal s refl,
      green.only-7.ensures ∙ only_within t x is_green s refl,
      c.gates.ensures,
    )

pub tile_tests_spec : {M : Type 1} → statement M
tile_tests_spec =
    tie.close
    (tie.spec
    (λ c κs. search rules) (λ c κs. search rules) (λ c κs. search rules) (λ c κs. search rules)
    (λ c κs. search rules) (λ c κs. search rules) (λ c κs. search rules) (λ c κs. search rules)
    (λ c κs. search rules) (λ c κs. search rules) (λ c κs. search rules) (λ c κs. search rules)
    (λ c κs. search rules) suits returns)
