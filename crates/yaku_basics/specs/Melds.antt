-- The groups that a hand's melds are (01, "kind 2: 0 chi, 1 pon, 2 open kan, 3 closed kan; tile 6, the lowest of a chi"): a meld byte b is 64 * kind + tile.
-- A group's way says how it was made: 0 concealed, 1 open, 2 open kan, 3 closed kan
-- (01, Fu and points: "open 2/4, concealed 4/8, open kan 8/16, closed kan 16/32").
use Rattle.std.specs.Prelude.{cond, ℕ, ◌+◌, ◌/◌, ◌%◌, eqb, leb}

-- "run: lowest kind; triplet: 34 + kind": a chi is a run, a pon or kan a triplet
abbrev pub meld_code : ℕ → ℕ
meld_code b = cond (eqb (b / 64) 0) (b % 64) (34 + b % 64)

-- "0 chi, 1 pon" are open, "2 open kan, 3 closed kan" have these ways
abbrev pub meld_way : ℕ → ℕ
meld_way b = cond (leb (b / 64) 1) 1 (b / 64)
