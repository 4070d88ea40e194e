-- The ways of four places as the code has them: those of the melds, and then the group that is completed. What they mean is `ways_of` of score/specs/Named.
use Rattle.std.specs.Prelude.{Bool, ◌&&◌, cond, List, ℕ, ◌-◌, set, ltb}

-- "A triplet completed by ron is open": the ways, where the winning tile completes the place (0 the pair, i + 1 the group at i)
unfoldable pub ways_at : List ℕ → Bool → ℕ → List ℕ
ways_at ways ron place = cond (ron && ltb 0 place) (set ways (place - 1) 1) ways
