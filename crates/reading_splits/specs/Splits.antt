-- What splits into a pair and groups (01, Readings; 02, S-9). Nothing here says how that is found out.
use Rattle.std.specs.Prelude.{◌≡◌, true, List, ℕ, ◌+◌, length}
use Rattle.tiles.specs.Groups.{is_group, at_kind}
use Rattle.reading.specs.Reading.{used_by}
use Rattle.reading.specs.All.{Each}

-- "a pair and 4 − m groups (run or triplet) using every tile exactly once" (01), "splits into one pair and runs or triplets" (02, S-9):
-- f k tiles of kind k are a pair and n groups
pub record Splits (n : ℕ) (f : ℕ → ℕ) : Type 0 where
  pub pair : ℕ
  pub groups : List ℕ
  pub number : length groups ≡ n
  pub codes : Each (λ g. is_group g ≡ true) groups
  pub tiles : (k : ℕ) → f k ≡ at_kind pair 2 k + used_by groups k
