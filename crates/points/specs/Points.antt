-- From han and fu to points (01, Fu and points). h is yaku han plus dora; A, the basic points, is what payments are multiples of.
use Rattle.std.specs.Prelude.{Bool, ◌||◌, cond, List, ℕ, ◌+◌, ◌*◌, ◌/◌, ◌^◌, ℤ, pos, ◌+ℤ◌, ◌-ℤ◌, get_or, eqb, leb, ltb}
use Rattle.tiles.specs.Below.{sum, tabulate}
use Rattle.points.specs.declared.Seats.{Seats}

-- "A = fu times 2 to the (h + 2)"
unfoldable pub plain : ℕ → ℕ → ℕ
plain h fu = fu * 2 ^ (h + 2)

-- "h up to 5, 2,000; 6-7, 3,000; 8-10, 4,000; 11 up, 6,000"
unfoldable pub limit : ℕ → ℕ
limit h = cond (leb h 5) 2000 (cond (leb h 7) 3000 (cond (leb h 10) 4000 6000))

-- "If h is 5 or more or A exceeds 2,000, A is" that limit
unfoldable pub ordinary : ℕ → ℕ → ℕ
ordinary h fu = cond (leb 5 h || ltb 2000 (plain h fu)) (limit h) (plain h fu)

-- "Yakuman 8,000"
unfoldable pub basic : Bool → ℕ → ℕ → ℕ
basic yakuman h fu = cond yakuman 8000 (ordinary h fu)

-- "Each payment is rounded up to hundreds"
unfoldable pub hundreds : ℕ → ℕ
hundreds x = (x + 99) / 100 * 100

-- "child tsumo, children A, dealer 2A; dealer tsumo, 2A each; ron, 4A to a child, 6A to the dealer": how many times A a seat pays
unfoldable pub times_a : Seats → Bool → ℕ → ℕ
times_a s ron seat =
    cond (eqb s.winner seat) 0
    (cond ron (cond (eqb s.discarder seat) (cond (eqb s.winner s.dealer) 6 4) 0)
    (cond (eqb s.winner s.dealer || eqb s.dealer seat) 2 1))

-- "Each payment": what a seat pays
unfoldable pub pays : Seats → Bool → ℕ → ℕ → ℕ
pays s ron a seat = hundreds (times_a s ron seat * a)

-- "A reading's gain is what these payments give the winner, sticks left out"
unfoldable pub gain : Seats → Bool → ℕ → ℕ
gain s ron a = sum 4 (pays s ron a)

-- one of the "four changes" (01, Score): what the winner gets, or what another seat pays
unfoldable pub change : Seats → Bool → ℕ → ℕ → ℤ
change s ron a seat = cond (eqb s.winner seat) (pos (gain s ron a)) (pos 0 -ℤ pos (pays s ron a seat))

-- the "four changes", of seats 0 to 3
unfoldable pub changes : Seats → Bool → ℕ → List ℤ
changes s ron a = tabulate 4 0 (change s ron a)

-- "four changes summing to 0": their sum
abbrev pub sum_of_four : List ℤ → ℤ
sum_of_four l = get_or l 0 (pos 0) +ℤ get_or l 1 (pos 0) +ℤ get_or l 2 (pos 0) +ℤ get_or l 3 (pos 0)
