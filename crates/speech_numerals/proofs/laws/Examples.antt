-- The table of SPEECH, Numbers, computed: each row in Japanese, English, Korean and Mandarin.
use Rattle.std.specs.Prelude.{◌≡◌, refl, List, [], ◌∷◌, ℕ}
use Rattle.speech_numerals.specs.Numerals.{place_of, under_hundred, three_of, scaled_three, english_of, thousands_of, hundreds_of, tens_of, ones_of, four_of}
use Rattle.speech_numerals.specs.Numerals.{scaled_four, eastern_of, numeral}

-- a number in the four languages
abbrev Row : ℕ → List ℕ → List ℕ → List ℕ → List ℕ → Type 0
Row n japanese english korean mandarin = (numeral 1 n ≡ japanese) × (numeral 2 n ≡ english) × (numeral 3 n ≡ korean) × (numeral 4 n ≡ mandarin)

-- "0 is clip 0 alone"
pub zero_alone : Row 0 (0 ∷ []) (0 ∷ []) (0 ∷ []) (0 ∷ [])
unfolding numeral
zero_alone = (refl, refl, refl, refl)

pub row_1300 : Row 1300 (28 ∷ 21 ∷ []) (1 ∷ 51 ∷ 21 ∷ []) (28 ∷ 21 ∷ []) (28 ∷ 21 ∷ [])
unfolding place_of under_hundred three_of scaled_three english_of thousands_of hundreds_of tens_of ones_of four_of scaled_four eastern_of numeral
row_1300 = (refl, refl, refl, refl)

pub row_8000 : Row 8000 (35 ∷ []) (8 ∷ 51 ∷ []) (35 ∷ []) (35 ∷ [])
unfolding place_of under_hundred three_of scaled_three english_of thousands_of hundreds_of tens_of ones_of four_of scaled_four eastern_of numeral
row_8000 = (refl, refl, refl, refl)

pub row_10500 : Row 10500 (1 ∷ 37 ∷ 23 ∷ []) (10 ∷ 51 ∷ 23 ∷ []) (37 ∷ 23 ∷ []) (1 ∷ 37 ∷ 0 ∷ 23 ∷ [])
unfolding place_of under_hundred three_of scaled_three english_of thousands_of hundreds_of tens_of ones_of four_of scaled_four eastern_of numeral
row_10500 = (refl, refl, refl, refl)

pub row_12000 : Row 12000 (1 ∷ 37 ∷ 29 ∷ []) (43 ∷ 51 ∷ []) (37 ∷ 29 ∷ []) (1 ∷ 37 ∷ 29 ∷ [])
unfolding place_of under_hundred three_of scaled_three english_of thousands_of hundreds_of tens_of ones_of four_of scaled_four eastern_of numeral
row_12000 = (refl, refl, refl, refl)

pub row_20000 : Row 20000 (2 ∷ 37 ∷ []) (11 ∷ 51 ∷ []) (2 ∷ 37 ∷ []) (41 ∷ 37 ∷ [])
unfolding place_of under_hundred three_of scaled_three english_of thousands_of hundreds_of tens_of ones_of four_of scaled_four eastern_of numeral
row_20000 = (refl, refl, refl, refl)

pub row_110010 : Row 110010 (10 ∷ 1 ∷ 37 ∷ 10 ∷ []) (19 ∷ 10 ∷ 51 ∷ 10 ∷ []) (10 ∷ 1 ∷ 37 ∷ 10 ∷ []) (10 ∷ 1 ∷ 37 ∷ 0 ∷ 40 ∷ [])
unfolding place_of under_hundred three_of scaled_three english_of thousands_of hundreds_of tens_of ones_of four_of scaled_four eastern_of numeral
row_110010 = (refl, refl, refl, refl)

pub row_28341000 : Row 28341000 (29 ∷ 26 ∷ 12 ∷ 4 ∷ 37 ∷ 28 ∷ []) (11 ∷ 8 ∷ 52 ∷ 21 ∷ 13 ∷ 1 ∷ 51 ∷ [])
    (29 ∷ 26 ∷ 12 ∷ 4 ∷ 37 ∷ 28 ∷ []) (29 ∷ 26 ∷ 12 ∷ 4 ∷ 37 ∷ 28 ∷ [])
unfolding place_of under_hundred three_of scaled_three english_of thousands_of hundreds_of tens_of ones_of four_of scaled_four eastern_of numeral
row_28341000 = (refl, refl, refl, refl)

pub row_10000000 : Row 10000000 (39 ∷ 37 ∷ []) (10 ∷ 52 ∷ []) (28 ∷ 37 ∷ []) (28 ∷ 37 ∷ [])
unfolding place_of under_hundred three_of scaled_three english_of thousands_of hundreds_of tens_of ones_of four_of scaled_four eastern_of numeral
row_10000000 = (refl, refl, refl, refl)

pub row_12300000 : Row 12300000 (28 ∷ 20 ∷ 12 ∷ 37 ∷ []) (43 ∷ 52 ∷ 21 ∷ 51 ∷ []) (28 ∷ 20 ∷ 12 ∷ 37 ∷ []) (28 ∷ 20 ∷ 12 ∷ 37 ∷ [])
unfolding place_of under_hundred three_of scaled_three english_of thousands_of hundreds_of tens_of ones_of four_of scaled_four eastern_of numeral
row_12300000 = (refl, refl, refl, refl)

pub row_105000 : Row 105000 (10 ∷ 37 ∷ 32 ∷ []) (19 ∷ 5 ∷ 51 ∷ []) (10 ∷ 37 ∷ 32 ∷ []) (10 ∷ 37 ∷ 32 ∷ [])
unfolding place_of under_hundred three_of scaled_three english_of thousands_of hundreds_of tens_of ones_of four_of scaled_four eastern_of numeral
row_105000 = (refl, refl, refl, refl)

pub row_100010000 : Row 100010000 (1 ∷ 38 ∷ 1 ∷ 37 ∷ []) (19 ∷ 52 ∷ 10 ∷ 51 ∷ []) (1 ∷ 38 ∷ 1 ∷ 37 ∷ []) (1 ∷ 38 ∷ 0 ∷ 1 ∷ 37 ∷ [])
unfolding place_of under_hundred three_of scaled_three english_of thousands_of hundreds_of tens_of ones_of four_of scaled_four eastern_of numeral
row_100010000 = (refl, refl, refl, refl)

pub row_100005000 : Row 100005000 (1 ∷ 38 ∷ 32 ∷ []) (19 ∷ 52 ∷ 5 ∷ 51 ∷ []) (1 ∷ 38 ∷ 32 ∷ []) (1 ∷ 38 ∷ 0 ∷ 32 ∷ [])
unfolding place_of under_hundred three_of scaled_three english_of thousands_of hundreds_of tens_of ones_of four_of scaled_four eastern_of numeral
row_100005000 = (refl, refl, refl, refl)

-- of our own: clips 39, 40 and 41 inside a number, which no row of the table has
pub one_thousand_inside : numeral 1 410000000 ≡ 4 ∷ 38 ∷ 39 ∷ 37 ∷ []
unfolding place_of under_hundred three_of scaled_three english_of thousands_of hundreds_of tens_of ones_of four_of scaled_four eastern_of numeral
one_thousand_inside = refl

pub two_inside : numeral 4 200020000 ≡ 41 ∷ 38 ∷ 0 ∷ 41 ∷ 37 ∷ []
unfolding place_of under_hundred three_of scaled_three english_of thousands_of hundreds_of tens_of ones_of four_of scaled_four eastern_of numeral
two_inside = refl

pub ten_inside : numeral 4 100110000 ≡ 1 ∷ 38 ∷ 0 ∷ 40 ∷ 1 ∷ 37 ∷ []
unfolding place_of under_hundred three_of scaled_three english_of thousands_of hundreds_of tens_of ones_of four_of scaled_four eastern_of numeral
ten_inside = refl
