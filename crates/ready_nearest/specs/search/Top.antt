-- Where the best complete hand begins, and so the fewest swaps. What it is, the theorems of `ready` say: `fewest_swaps` is this number.
use Rattle.std.specs.Prelude.{cond, List, ℕ, ◌-◌, ◌*◌, leb, eqb}
use Rattle.ready_choices.specs.search.Moves.{state, best}

-- of the values a, b, c of the starts s, 77 and 79 the start of a greatest
abbrev pub greatest : ℕ → ℕ → ℕ → ℕ → ℕ
greatest s a b c = cond (leb b a) (cond (leb c a) s 79) (cond (leb c b) 77 79)

-- the start of the best complete hand: regular, and with no meld seven pairs and thirteen orphans too
unfoldable pub top_start : List ℕ → List ℕ → ℕ → ℕ
top_start t d m =
    cond (eqb m 0) (greatest (state 0 0 (4 - m) 1) (best t d 34 0 (state 0 0 (4 - m) 1)) (best t d 34 0 77) (best t d 34 0 79)) (state 0 0 (4 - m) 1)

-- the fewest tiles of t to swap until it is ready beside m melds of the tiles d
unfoldable pub fewest : List ℕ → List ℕ → ℕ → ℕ
fewest t d m = 14 - 3 * m - best t d 34 0 (top_start t d m)
