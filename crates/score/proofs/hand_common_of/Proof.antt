-- `score::hand_common_of` meets its contract: what each call gives, and that it is ready for the search.
use borrow.Author.Rules.{rules}
use Prim.Native.Nat.{ℕ, ◌≤◌, ◌<◌}
use mathlib.Core.List.{List}
use mathlib.Core.Path.{◌≡◌, ap, ◌∙◌}
use native.Mathlib.Omega.{arith}
use Rattle.tiles.specs.Kinds.{dora_of}
use Rattle.hand.specs.declared.Hand.{Hand}
use Rattle.yaku.specs.declared.Won.{Won}
use Rattle.yaku_tiles.specs.declared.TileTests.{TileTests}
use Rattle.yaku_tiles.specs.search.TileTests.{tile_tests_of}
use Rattle.score.specs.Named.{won_of, seats_of}
use Rattle.score.specs.search.HandCommon.{meld_codes, meld_ways, hand_common_of}
use Rattle.score.proofs.hand_common_of.Statement.{statement}
use Rattle.score.proofs.hand_common_of.Tie as tie

module _ (h : Hand) (dealer wind : ℕ) (won : Won) (ew : won ≡ won_of h dealer wind) where
  made : (x : TileTests) (codes ways : List ℕ) (dora : ℕ) → x ≡ tile_tests_of won.tally won.meldless → codes ≡ meld_codes h → ways ≡ meld_ways h
      → dora ≡ dora_of h.fields.indicator
      → record { won = won; tests = x; seats = seats_of h dealer; dora = dora; codes = codes; ways = ways } ≡ hand_common_of h dealer wind
  unfolding hand_common_of won_of
  made x codes ways dora ex ec ey ed =
      let q : x ≡ tile_tests_of (won_of h dealer wind).tally (won_of h dealer wind).meldless = rw ew at ex in
      rw (ec, ey, ed) (ap (λ (v : Won). record {
        won = v;
        tests = x;
        seats = seats_of h dealer;
        dora = dora_of
            h.fields.indicator;
        codes = meld_codes h;
        ways = meld_ways h;
      }) ew
      ∙ ap (λ (v : TileTests). record {
        won = won_of h dealer wind;
        tests = v;
        seats = seats_of h dealer;
        dora = dora_of
            h.fields.indicator;
        codes = meld_codes h;
        ways = meld_ways h;
      }) q)

  winds : wind ≤ 1 → (won.round < 34) × (won.own < 34)
  unfolding won_of
  winds l = rw ew (omega arith, omega arith)

pub hand_common_of_spec : {M : Type 1} → statement M
hand_common_of_spec =
    tie.close
    (tie.spec (λ c κs. search rules) (λ c κs. search rules) (λ c κs. search rules) (λ c κs. search rules) (λ c κs. search rules)
    (λ c.
    let ways = c.before in
    let codes = ways.before in
    let tests = codes.before in
    let won = tests.before.before in
    let start = won.before in
    let a = start.args in
    let w = won.won_of-won in
    let v = winds a.h a.dealer a.wind w.result w.ensures start.requires.3 in (
      made a.h a.dealer a.wind w.result w.ensures
          tests.tile_tests-tests.result codes.meld_codes-codes.result ways.meld_ways-ways.result c.dora.result
          tests.tile_tests-tests.ensures codes.meld_codes-codes.ensures ways.meld_ways-ways.ensures c.dora.ensures.0,
      record { tests = tests.tile_tests-tests.ensures; round = v.0; own = v.1; dora = c.dora.ensures.1 },
    )))
