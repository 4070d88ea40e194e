-- What is the same in every reading of a hand, as the code makes it once: the melds stand in the last m of four places, and 68 is no group.
use Rattle.std.specs.Prelude.{cond, List, ℕ, ◌-◌, ltb, eqb, get_or}
use Rattle.tiles.specs.Below.{tabulate}
use Rattle.tiles.specs.Kinds.{dora_of}
use Rattle.hand.specs.declared.Hand.{Hand}
use Rattle.hand.specs.Hand.{hand_tally}
use Rattle.yaku_basics.specs.Melds.{meld_code, meld_way}
use Rattle.yaku_tiles.specs.search.TileTests.{tile_tests_of}
use Rattle.score_best.specs.declared.HandCommon.{HandCommon}
use Rattle.score.specs.Named.{won_of, seats_of}

-- the meld at place i, behind the "4 − m groups" of a reading
abbrev pub meld_at : Hand → ℕ → ℕ
meld_at h i = get_or h.held.melds (i - (4 - h.held.m)) 0

-- the group of each, 68 where there is none
unfoldable pub meld_codes : Hand → List ℕ
meld_codes h = tabulate 4 0 (λ i. cond (ltb i (4 - h.held.m)) 68 (meld_code (meld_at h i)))

-- the way of each, concealed where there is none
unfoldable pub meld_ways : Hand → List ℕ
meld_ways h = tabulate 4 0 (λ i. cond (ltb i (4 - h.held.m)) 0 (meld_way (meld_at h i)))

-- what is the same in every reading of the hand
unfoldable pub hand_common_of : Hand → ℕ → ℕ → HandCommon
hand_common_of h dealer wind = record {
  won = won_of h dealer wind;
  tests = tile_tests_of (hand_tally h) (eqb h.held.m 0);
  seats = seats_of h dealer;
  dora = dora_of h.fields.indicator;
  codes = meld_codes h;
  ways = meld_ways h;
}
