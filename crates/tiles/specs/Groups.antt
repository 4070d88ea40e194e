-- Groups of tiles by their codes (01, Readings: "run: lowest kind; triplet: 34 + kind"). 68 stands for no group.
use Rattle.std.specs.Prelude.{Bool, ◌&&◌, cond, ℕ, ◌+◌, ◌-◌, ltb, leb, eqb}
use Rattle.tiles.specs.Kinds.{is_run_start}

-- "run: lowest kind"
abbrev pub is_run : ℕ → Bool
is_run c = ltb c 34

-- "triplet: 34 + kind"; "Triplet includes kan here" (01, Yaku)
abbrev pub is_triplet : ℕ → Bool
is_triplet c = leb 34 c && ltb c 68

-- "groups (run or triplet)": c is the code of one, a run within its suit
unfoldable pub is_group : ℕ → Bool
is_group c = cond (is_run c) (is_run_start c) (ltb c 68)

-- n at the kind a, 0 at any other kind k: a tool for counts by kind
unfoldable pub at_kind : ℕ → ℕ → ℕ → ℕ
at_kind a n k = cond (eqb a k) n 0

-- how many tiles of kind k the group c has, for "using every tile exactly once": a run one of each, a triplet three
unfoldable pub uses : ℕ → ℕ → ℕ
uses c k = cond (is_run c) (at_kind c 1 k + at_kind (c + 1) 1 k + at_kind (c + 2) 1 k) (at_kind (c - 34) 3 k)
