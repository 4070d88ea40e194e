-- What the code keeps of a pair and groups, tested once for all places of the winning tile, and what it keeps of a place:
-- what a reading is worth is stated without them (`tests_of`).
use Rattle.std.specs.Prelude.{Bool, false, ◌&&◌, ◌||◌, not, List, ℕ, get_or, replicate, eqb}
use Rattle.tiles.specs.Below.{all, tabulate}
use Rattle.tiles.specs.Groups.{is_run}
use Rattle.yaku_basics.specs.Tests.{is_value, little_dragons, value_han, concealed, kans}
use Rattle.yaku.specs.Yaku.{has_wait_fu, pinfu, tests_of, is_yakuman, has_yaku}
use Rattle.yaku.specs.declared.Won.{Won}
use Rattle.yaku.specs.declared.FullReading.{FullReading}
use Rattle.yaku.specs.declared.GroupTests.{GroupTests}
use Rattle.yaku.specs.declared.PlaceTests.{PlaceTests}

-- the yaku that go by the place or by the ways of the groups
abbrev pub by_place : ℕ → Bool
by_place n = eqb n 4 || eqb n 18 || eqb n 19 || eqb n 30 || eqb n 31

-- a list of tests without those
unfoldable pub any_place : List Bool → List Bool
any_place y = tabulate 37 0 (λ n. not (by_place n) && get_or y n false)

-- the tests at each place
abbrev pub at_each : Won → ℕ → ℕ → List ℕ → List Bool
at_each w shape pair g = any_place (tests_of w (record { shape = shape; pair = pair; groups = g; ways = replicate 4 0; place = 0 }))

-- what a pair and groups say at each place
unfoldable pub group_tests_of : Won → ℕ → ℕ → List ℕ → GroupTests
group_tests_of w shape pair g = record {
  yaku = at_each w shape pair g;
  yakuman = is_yakuman (at_each w shape pair g);
  any = has_yaku (at_each w shape pair g);
  values = record { 0 = value_han g w.round w.own (little_dragons g pair) };
  runs = w.closed && all 4 (λ i. is_run (get_or g i 0)) && not (is_value w.round w.own pair);
  value = is_value w.round w.own pair;
}

-- what a place says, and the ways with it
unfoldable pub place_tests_of : Won → FullReading → PlaceTests
place_tests_of w p = record {
  wait = has_wait_fu w p;
  pinfu = pinfu w p;
  ankou = concealed p.groups p.ways;
  kan = kans p.ways;
  yakuman = is_yakuman (tests_of w p);
  any = has_yaku (tests_of w p);
}
