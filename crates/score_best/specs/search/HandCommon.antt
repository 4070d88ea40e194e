-- What a reading is worth as the code makes it: from what is the same in every reading of a hand, with four places in which 68 is no group.
-- What it means is `worth` of score/specs/Named; `worth_in_lem` of score/proofs/laws/FullReading proves the two equal.
use Rattle.std.specs.Prelude.{cond, List, ◌≡◌, ℕ, ◌<◌, eqb, get_or}
use Rattle.tiles.specs.Below.{tabulate}
use Rattle.reading.specs.declared.Reading.{Reading}
use Rattle.yaku_basics.specs.search.Ways.{ways_at}
use Rattle.yaku.specs.declared.FullReading.{FullReading}
use Rattle.yaku_tiles.specs.search.TileTests.{tile_tests_of}
use Rattle.points_value.specs.declared.Value.{Value}
use Rattle.points_value.specs.declared.Common.{Common}
use Rattle.points_value.specs.search.Common.{IsCommon}
use Rattle.points_value.specs.Value.{value_of}
use Rattle.score_best.specs.declared.HandCommon.{HandCommon}

-- the groups of the reading and, where it has none (68), those of the melds
unfoldable pub joined : List ℕ → List ℕ → List ℕ
joined groups codes = tabulate 4 0 (λ i. cond (eqb (get_or groups i 0) 68) (get_or codes i 0) (get_or groups i 0))

-- the reading with the melds
unfoldable pub full_reading_in : HandCommon → Reading → FullReading
full_reading_in t r = record {
  shape = r.shape;
  pair = r.pair;
  groups = joined r.groups t.codes;
  ways = ways_at t.ways t.won.ron r.place;
  place = r.place;
}

-- what it is worth
unfoldable pub worth_in : HandCommon → Reading → Value
worth_in t r = value_of t.won (full_reading_in t r) t.dora t.seats

-- what it has that was made for a hand: the tests are those of its tiles, winds and dora are kinds
pub record IsHandCommon (t : HandCommon) : Type 0 where
  pub tests : t.tests ≡ tile_tests_of t.won.tally t.won.meldless
  pub round : t.won.round < 34
  pub own : t.won.own < 34
  pub dora : t.dora < 34

-- k is what the code keeps of a reading's pair and groups for all places
abbrev pub IsCommonIn : HandCommon → ℕ → ℕ → List ℕ → Common → Type 0
IsCommonIn t shape pair groups k = IsCommon t.won t.dora shape pair (joined groups t.codes) t.ways k
