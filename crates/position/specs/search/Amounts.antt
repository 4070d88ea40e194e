-- How much a booking gives or takes at most, so that no sum of the code wraps: two amounts add up within 32 bits, and no score, no three wins' gifts and no
-- 1,000 times the sticks is more than one.
use Rattle.std.specs.Prelude.{ℕ, ◌<◌, List, ℤ, pos, ◌+ℤ◌, get_or}
use Rattle.tiles.specs.Below.{tabulate}
use Rattle.score.specs.search.Parts.{Within}

-- more than any score, three wins' gifts or 1,000 times the sticks
abbrev pub amount : ℕ
amount = 1000000000

-- more than the most that a win's changes, or its counters, give or take
abbrev pub most_change : ℕ
most_change = 200000

-- more sticks than a game in form has
abbrev pub most_sticks : ℕ
most_sticks = 200000

-- more than the most that a win gives or takes, its sticks too
abbrev pub most_gift : ℕ
most_gift = 300000000

-- each of four is an amount, so that a sum of two does not wrap
abbrev pub Small : List ℤ → Type 0
Small s = (i : ℕ) → i < 4 → Within (get_or s i (pos 0)) amount

-- each is within what a win's changes, or its counters, give or take
abbrev pub Changes : List ℤ → Type 0
Changes c = (i : ℕ) → Within (get_or c i (pos 0)) most_change

-- each is within what a win gives or takes, its sticks too
abbrev pub Gifts : List ℤ → Type 0
Gifts c = (i : ℕ) → Within (get_or c i (pos 0)) most_gift

-- four scores s with what each seat is given
abbrev pub paid : List ℤ → List ℤ → List ℤ
paid s by = tabulate 4 0 (λ i. get_or s i (pos 0) +ℤ get_or by i (pos 0))
