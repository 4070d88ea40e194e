-- The theorem that the readings of a hand are one list (02, S-4).
use Rattle.std.specs.Prelude.{List, ◌≡◌, ℕ, length}
use Rattle.tiles.specs.One.{ExactlyOne}
use Rattle.reading.specs.All.{IsAll}
use Rattle.reading.proofs.laws.Only as laws

-- of "the tally of all 34 kinds" there is a list of all readings in order, and every such list is that one
pub exactly_one_list : (t : List ℕ) (m win : ℕ) → length t ≡ 34 → ExactlyOne (IsAll t m win)
exactly_one_list = laws.exactly_one_list
