-- The han of the listed yaku as the code adds them up: what yaku 3 counts comes apart.
use Rattle.std.specs.Prelude.{Bool, false, cond, List, ℕ, get_or}
use Rattle.tiles.specs.Below.{sum_below}
use Rattle.points_value.specs.Han.{han_for}

-- the han of each yaku but 3
abbrev pub fixed_han : Bool → List ℕ
fixed_han closed = han_for closed 0

-- their sum over the listed ones
unfoldable pub han_by : List Bool → List ℕ → ℕ
han_by y han = sum_below 37 (λ n. cond (get_or y n false) (get_or han n 0) 0)
