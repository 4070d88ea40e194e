-- How the code finds the complete hand that keeps most of a tally: kind by kind, a state says what is begun and what is left to do, and a
-- choice how many tiles of the kind are taken. Nobody has to believe it: what is found is stated in `ready`.
-- States 0 to 69, a regular hand: runs begun at the kind before (a) and at the one before that (b), groups (g) and pairs (p) left to begin, a + b + g at
-- most 4; 70 to 77, seven pairs: 70 and the pairs left; 78 and 79, thirteen orphans: 78 and the second tiles left.
use Rattle.std.specs.Prelude.{Bool, true, ◌&&◌, ◌||◌, cond, List, [], ◌∷◌, ℕ, zero, suc, ◌+◌, ◌-◌, ◌*◌, ◌/◌, ◌%◌, min, max, leb, ltb, eqb, get_or}
use Rattle.tiles.specs.Kinds.{is_run_start, is_yaochu}

-- ---- the states of a regular hand, by a + b + g, then a + b, then a
-- a + 5 b + 25 g
abbrev pub begun : List ℕ
begun =
    0 ∷ 25 ∷ 5 ∷ 1 ∷ 50 ∷ 30 ∷ 26 ∷ 10 ∷ 6 ∷ 2 ∷ 75 ∷ 55 ∷ 51 ∷ 35 ∷ 31 ∷ 27 ∷ 15 ∷ 11 ∷ 7 ∷ 3
    ∷ 100 ∷ 80 ∷ 76 ∷ 60 ∷ 56 ∷ 52 ∷ 40 ∷ 36 ∷ 32 ∷ 28 ∷ 20 ∷ 16 ∷ 12 ∷ 8 ∷ 4 ∷ []

-- 0, 1, 4, 10, 20: how many a, b, g have a smaller sum
unfoldable pub tetra : ℕ → ℕ
tetra n = n * (n + 1) * (n + 2) / 6

-- 0, 1, 3, 6, 10: how many a, b have a smaller sum
unfoldable pub triangle : ℕ → ℕ
triangle n = n * (n + 1) / 2

-- where a, b, g stand
unfoldable pub place : ℕ → ℕ → ℕ → ℕ
place a b g = tetra (a + b + g) + triangle (a + b) + a

unfoldable pub a_of : ℕ → ℕ
a_of s = get_or begun (s / 2) 0 % 5

unfoldable pub b_of : ℕ → ℕ
b_of s = get_or begun (s / 2) 0 / 5 % 5

unfoldable pub g_of : ℕ → ℕ
g_of s = get_or begun (s / 2) 0 / 25

abbrev pub p_of : ℕ → ℕ
p_of s = s % 2

unfoldable pub state : ℕ → ℕ → ℕ → ℕ → ℕ
state a b g p = 2 * place a b g + p

-- ---- the choices at a kind of a regular hand: runs begun, triplets and pairs, in the order of the groups begun
-- 0, 0, 0, 1, 1, 2, 2, 1, 3, 4
unfoldable pub x_of : ℕ → ℕ
x_of e = cond (ltb e 3) 0 (cond (ltb e 5) 1 (cond (ltb e 7) 2 (cond (eqb e 7) 1 (e - 5))))

-- 0, 0, 1, 0, 0, 0, 0, 1, 0, 0
unfoldable pub y_of : ℕ → ℕ
y_of e = cond (eqb e 2 || eqb e 7) 1 0

-- 0, 1, 0, 0, 1, 0, 1, 0, 0, 0
unfoldable pub z_of : ℕ → ℕ
z_of e = cond (eqb e 1 || eqb e 4 || eqb e 6) 1 0

-- how many choices begin g groups at most; the first three begin no run
unfoldable pub choices : ℕ → ℕ
choices g = cond (eqb g 0) 2 (cond (eqb g 1) 5 (cond (eqb g 2) 8 (cond (eqb g 3) 9 10)))

-- ---- a choice in a state
-- a hand can be in the state s at the kind k: runs were begun where runs begin
unfoldable pub live : ℕ → ℕ → Bool
live k s =
    cond (ltb s 70)
    ((eqb (a_of s) 0 || (ltb k 27 && leb 1 (k % 9) && leb (k % 9) 7)) && (eqb (b_of s) 0 || (ltb k 27 && leb 2 (k % 9))))
    true

-- the choice e can be made at the kind k in the state s
unfoldable pub may : ℕ → ℕ → ℕ → Bool
may k s e =
    cond (ltb s 70)
    (leb (x_of e + y_of e) (g_of s) && leb (z_of e) (p_of s) && (eqb (x_of e) 0 || is_run_start k))
    (cond (ltb s 78)
    (leb e 1 && leb e (s - 70))
    (leb e 1 && leb e (s - 78) && (eqb e 0 || is_yaochu k)))

-- the tiles of the kind that it takes
unfoldable pub taken : ℕ → ℕ → ℕ → ℕ
taken k s e =
    cond (ltb s 70) (a_of s + b_of s + x_of e + 3 * y_of e + 2 * z_of e)
    (cond (ltb s 78) (2 * e) (cond (is_yaochu k) (1 + e) 0))

-- the state after it
unfoldable pub next : ℕ → ℕ → ℕ
next s e = cond (ltb s 70) (state (x_of e) (a_of s) (g_of s - (x_of e + y_of e)) (p_of s - z_of e)) (s - e)

-- the choice keeps the rules, and "no kind over four held"
unfoldable pub fine : ℕ → ℕ → ℕ → ℕ → Bool
fine room k s e = live k s && (may k s e && leb (taken k s e) room)

-- after the last kind nothing is left to do
unfoldable pub ended : ℕ → Bool
ended s = eqb s 0 || eqb s 70 || eqb s 78

-- ---- the best of the choices
-- the greatest of f below n, 0 of none
unfoldable pub most : ℕ → (ℕ → ℕ) → ℕ
most zero f = 0
most (suc n) f = max (most n f) (f n)

-- x tiles more beside v, which is one more than the tiles kept and 0 where no hand can be completed
unfoldable pub kept : ℕ → ℕ → ℕ
kept zero x = 0
kept (suc v) x = suc v + x

-- what a choice is worth at a kind of which there are have tiles and room for room, with later values as said
unfoldable pub worth : ℕ → ℕ → (ℕ → ℕ) → ℕ → ℕ → ℕ → ℕ
worth have room later k s e = cond (fine room k s e) (kept (later (next s e)) (min have (taken k s e))) 0

-- one more than the most tiles of t that a hand can keep with the n kinds from k on, in the state s; 0 where none can be completed
unfoldable pub best : List ℕ → List ℕ → ℕ → ℕ → ℕ → ℕ
best t d zero k s = cond (ended s) 1 0
best t d (suc n) k s = most 10 (worth (get_or t k 0) (4 - get_or d k 0) (best t d n (suc k)) k s)
