-- What the code keeps of a pair and groups for all places of the winning tile: what a reading is worth is stated without it (`value_of`).
use Rattle.std.specs.Prelude.{◌≡◌, List, ℕ, ◌+◌, ◌≤◌, get_or}
use Rattle.yaku_basics.specs.Tests.{concealed, kans}
use Rattle.yaku.specs.declared.Won.{Won}
use Rattle.yaku.specs.search.Common.{group_tests_of}
use Rattle.points_fu.specs.search.Items.{items_by}
use Rattle.points_value.specs.Han.{yaku_han}
use Rattle.points_value.specs.declared.Common.{Common}

-- h but for the yaku that go by the place or the ways
unfoldable pub han_before : Won → ℕ → ℕ → ℕ → List ℕ → ℕ
han_before w dora shape pair g = yaku_han (group_tests_of w shape pair g).yaku w.closed (group_tests_of w shape pair g).values.0 + get_or w.tally dora 0

-- k is what is kept of the pair and the groups g with their ways
pub record IsCommon (w : Won) (dora shape pair : ℕ) (g ways : List ℕ) (k : Common) : Type 0 where
  pub groups : k.groups ≡ g
  pub tests : k.tests ≡ group_tests_of w shape pair g
  pub han : k.han.0 ≡ han_before w dora shape pair g
  pub few : k.han.0 ≤ 482
  pub ankou : k.ankou ≡ concealed g ways
  pub kan : k.kan ≡ kans ways
  pub items : k.items ≡ items_by g ways
