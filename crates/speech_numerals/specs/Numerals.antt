-- The numbers "0 to 4,294,967,295" as lists of clips, in the languages 1 Japanese, 2 English, 3 Korean, 4 Mandarin (SPEECH, Numbers).
-- Of a number whose lower digits are cut off, x is what is left: its last digit is x % 10, and x / 10 stands above that digit.
use Rattle.std.specs.Prelude.{Bool, true, false, ◌&&◌, cond, List, [], ◌∷◌, ◌++◌, ℕ, ◌+◌, ◌/◌, ◌%◌, ltb, eqb}

-- "a digit 0 left out"; otherwise its clip, behind clip 0 where there is a gap
unfoldable pub place_of : Bool → ℕ → ℕ → List ℕ
place_of gap clip d = cond (eqb d 0) [] (cond gap (0 ∷ []) [] ++ (clip ∷ []))

-- ---- English: "groups of three digits, the highest first, a group of 0 left out"

-- "what is left under 100: 1 to 9, ten, eleven to nineteen, or tens and ones"
unfoldable pub under_hundred : ℕ → List ℕ
under_hundred t = cond (ltb 10 t && ltb t 20) ((31 + t) ∷ []) (place_of false (9 + t / 10) (t / 10) ++ place_of false (t % 10) (t % 10))

-- "of a group its hundreds (clip 18 + d), then what is left under 100"
unfoldable pub three_of : ℕ → List ℕ
three_of g = place_of false (18 + g / 100) (g / 100) ++ under_hundred (g % 100)

-- "a group of 0 left out"; "after it its scale"
unfoldable pub scaled_three : ℕ → ℕ → List ℕ
scaled_three scale g = cond (eqb g 0) [] (three_of g ++ (scale ∷ []))

-- "the highest first"; "thousand, million or billion"
unfoldable pub english_of : ℕ → List ℕ
english_of n =
    scaled_three 53 (n / 1000000000) ++ (scaled_three 52 (n / 1000000 % 1000) ++ (scaled_three 51 (n / 1000 % 1000) ++ three_of (n % 1000)))

-- ---- Japanese, Korean, Mandarin, language l: "groups of four digits, the highest first, a group of 0 left out"

-- Mandarin: "a digit that is said has clip 0 before it where something has been said above it and the digit just above it (for a thousands digit, the
-- whole group above) is 0"
abbrev pub is_gap : ℕ → ℕ → Bool → Bool
is_gap l above none = eqb l 4 && (ltb 0 above && none)

-- "its thousands (27 + d)"; "Japanese: a group of 1,000 with a scale is clip 39". Here x is the number without the groups below this one
unfoldable pub thousands_of : ℕ → Bool → ℕ → List ℕ
thousands_of l scaled x =
    place_of (is_gap l (x / 10000) (eqb (x / 10000 % 10000) 0)) (cond (eqb l 1 && (scaled && eqb (x % 10000) 1000)) 39 (27 + x / 1000 % 10)) (x / 1000 % 10)

-- "hundreds (18 + d)"; here and in the next x is the number without the digits below this one
unfoldable pub hundreds_of : ℕ → ℕ → List ℕ
hundreds_of l x = place_of (is_gap l (x / 10) (eqb (x / 10 % 10) 0)) (18 + x % 10) (x % 10)

-- "tens (9 + d)"; Mandarin: "Ten is clip 10 where it begins the number and clip 40 elsewhere"
unfoldable pub tens_of : ℕ → ℕ → List ℕ
tens_of l x =
    place_of (is_gap l (x / 10) (eqb (x / 10 % 10) 0)) (cond (eqb l 4 && (ltb 0 (x / 10) && eqb (x % 10) 1)) 40 (9 + x % 10)) (x % 10)

-- "and ones (d)"; Mandarin: "A group of 2 with a scale is clip 41"
unfoldable pub ones_of : ℕ → Bool → ℕ → List ℕ
ones_of l scaled x =
    place_of (is_gap l (x / 10) (eqb (x / 10 % 10) 0)) (cond (eqb l 4 && (scaled && eqb (x % 10000) 2)) 41 (x % 10)) (x % 10)

-- "groups of four digits": the last four of x
unfoldable pub four_of : ℕ → Bool → ℕ → List ℕ
four_of l scaled x = thousands_of l scaled x ++ (hundreds_of l (x / 100) ++ (tens_of l (x / 10) ++ ones_of l scaled x))

-- "a group of 0 left out"; "after it its scale"; "Korean: where a number begins with a group of 1 before 만, 만 stands alone"
unfoldable pub scaled_four : ℕ → ℕ → ℕ → List ℕ
scaled_four l scale x =
    cond (eqb (x % 10000) 0) [] (cond (eqb l 3 && (eqb scale 37 && eqb x 1)) [] (four_of l true x) ++ (scale ∷ []))

-- "the highest first"; "億 or 万"
unfoldable pub eastern_of : ℕ → ℕ → List ℕ
eastern_of l n = scaled_four l 38 (n / 100000000) ++ (scaled_four l 37 (n / 10000) ++ four_of l false n)

-- ---- a number: "0 is clip 0 alone. Otherwise, by language"

unfoldable pub numeral : ℕ → ℕ → List ℕ
numeral l n = cond (eqb n 0) (0 ∷ []) (cond (eqb l 2) (english_of n) (eastern_of l n))
