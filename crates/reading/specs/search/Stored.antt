-- The splittings that a search lists, each behind the groups that it has taken.
use Rattle.std.specs.Prelude.{List, map, ℕ, ◌-◌}
use Rattle.std.proofs.lemmas.List.Edits.{sets}
use Rattle.reading.specs.search.Readings.{splits}

-- the splittings of t into n groups from the code c on, each behind the size - n groups that the prefix has
unfoldable pub behind : ℕ → List ℕ → ℕ → ℕ → List ℕ → List (List ℕ)
behind size prefix n c t = map (sets prefix (size - n)) (splits n (68 - c) c t)
