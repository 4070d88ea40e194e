-- The parts of what the handset says, as lists of clips (SPEECH, Clips and Messages), in language l.
use Rattle.std.specs.Prelude.{Bool, false, ◌||◌, cond, List, [], ◌∷◌, ◌++◌, ℕ, zero, suc, ◌+◌, ◌-◌, ◌%◌, ltb, leb, eqb, ℤ, pos, nat_abs, get_or}
use Rattle.std.specs.Int.Signed.{lt_z}
use Rattle.points.specs.Points.{plain}
use Rattle.speech_numerals.specs.Numerals.{numeral}

-- "A player is named by the seat's wind: clip 60 + (seat − dealer) mod 4"; "a dealer over 3 counts as dealer mod 4"
abbrev pub player : ℕ → ℕ → ℕ
player dealer seat = 60 + (seat + 4 - dealer % 4) % 4

-- the clip first + k for each k below n that has p, ascending
unfoldable pub chosen : ℕ → (ℕ → Bool) → ℕ → List ℕ
chosen first p zero = []
chosen first p (suc n) = chosen first p n ++ cond (p n) ((first + n) ∷ []) []

-- "each yaku of the set, ascending": yaku 1 to 36 are clips 141 to 176
unfoldable pub yaku_clips : List Bool → List ℕ
yaku_clips y = chosen 141 (λ k. get_or y (k + 1) false) 36

-- "where a limit is paid" (01, "If h is 5 or more or A exceeds 2,000")
unfoldable pub is_limit : ℕ → ℕ → Bool
is_limit h fu = leb 5 h || ltb 2000 (plain h fu)

-- mangan, haneman, baiman, sanbaiman (01, "h up to 5 ..; 6-7 ..; 8-10 ..; 11 up")
unfoldable pub limit_clip : ℕ → ℕ
limit_clip h = cond (leb h 5) 71 (cond (leb h 7) 72 (cond (leb h 10) 73 74))

-- "where a limit is paid, its name"
unfoldable pub limit_clips : ℕ → ℕ → List ℕ
limit_clips h fu = cond (is_limit h fu) (limit_clip h ∷ []) []

-- "with a yakuman 75, otherwise h, 69, fu, 70 and, where a limit is paid, its name"
unfoldable pub worth_clips : ℕ → Bool → ℕ → ℕ → List ℕ
worth_clips l yakuman h fu = cond yakuman (75 ∷ []) (numeral l h ++ (69 ∷ (numeral l fu ++ (70 ∷ limit_clips h fu))))

-- "the player, 66, the amount, 68"; "the winner, 67, the gain, 68"
unfoldable pub amount_clips : ℕ → ℕ → ℕ → ℕ → List ℕ
amount_clips l who verb n = who ∷ verb ∷ (numeral l n ++ (68 ∷ []))

-- "each seat's payment": what its change takes from it
unfoldable pub paid : ℤ → ℕ
paid z = cond (lt_z z (pos 0)) (nat_abs z) 0

-- of a seat and its change: "each that pays"
unfoldable pub pays_clips : ℕ → ℕ → ℕ → ℤ → List ℕ
pays_clips l dealer seat change = cond (lt_z change (pos 0)) (amount_clips l (player dealer seat) 66 (nat_abs change)) []

-- "of seats 0 to 3"
unfoldable pub payments_clips : ℕ → ℕ → List ℤ → List ℕ
payments_clips l dealer c =
    pays_clips l dealer 0 (get_or c 0 (pos 0)) ++ (pays_clips l dealer 1 (get_or c 1 (pos 0)) ++ (pays_clips l dealer 2 (get_or c 2 (pos 0)) ++ pays_clips l dealer 3 (get_or c 3 (pos 0))))

-- ---- of the other messages

-- "Each item that is not 0: its clip .. and its number"; "77 and the sticks where there are any; 78 and the counters where there are any"
unfoldable pub counted_clips : ℕ → ℕ → ℕ → List ℕ
counted_clips l clip n = cond (eqb n 0) [] (clip ∷ numeral l n)

-- "the player, 76 where negative, the amount, 68"
unfoldable pub score_clips : ℕ → ℕ → ℕ → ℤ → List ℕ
score_clips l dealer seat score = player dealer seat ∷ (cond (lt_z score (pos 0)) (76 ∷ []) [] ++ (numeral l (nat_abs score) ++ (68 ∷ [])))

-- "the tiles ascending": kind 0 to 33 are clips 100 to 133
unfoldable pub tile_clips : List Bool → List ℕ
tile_clips w = chosen 100 (λ k. get_or w k false) 34
