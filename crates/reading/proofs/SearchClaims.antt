-- What is claimed of the search: `readings` lists each reading of a hand once, in the document's order, and nothing else.
use Rattle.std.specs.Prelude.{◌≡◌, ℕ, length}
use mathlib.Core.List.{List, Memᴰ as Member}
use Rattle.reading.specs.declared.Reading.{Reading}
use Rattle.reading.specs.Reading.{IsReading}
use Rattle.reading.specs.Order.{key_of, Before}
use Rattle.reading.specs.All.{Pairwise}
use Rattle.reading.specs.search.Readings.{readings}
use Rattle.reading.proofs.laws.Lists.{each_member}
use Rattle.reading.proofs.laws.Readings.{readings_each, readings_has, readings_ascend, lex_irreflexive}

-- the tally t "of all 34 kinds", m melds, "the winning tile's kind" win
module _ (t : List ℕ) (m win : ℕ) (l : length t ≡ 34) where
  -- each one listed "is one of" the readings
  pub readings_sound : (r : Reading) → Member r (readings t m win) → IsReading t m win r
  readings_sound r h = each_member (readings_each t m win l) h

  -- each reading is listed
  pub readings_complete : (r : Reading) → IsReading t m win r → Member r (readings t m win)
  readings_complete r h = readings_has t m win r l h

  -- "Order": each one listed comes before every later one
  pub readings_ordered : Pairwise Before (readings t m win)
  readings_ordered = readings_ascend t m win l

-- no reading comes before itself, so none is listed twice
pub before_irreflexive : (r : Reading) → Before r r → ⊥
before_irreflexive r = lex_irreflexive (key_of r)
