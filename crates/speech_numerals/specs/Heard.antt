-- What is heard of clips that name a number, the same in every language (SPEECH, Numbers: "A listener needs no grammar"), and which clips the sheet
-- has for a language (SPEECH, Clips).
use Rattle.std.specs.Prelude.{Bool, ◌&&◌, ◌||◌, not, cond, List, [], ◌∷◌, ℕ, ◌+◌, ◌*◌, ◌-◌, max, ltb, eqb}

-- "a clip with a value (39 is 1,000, 40 is 10, 41 is 2)"
unfoldable pub value_of : ℕ → ℕ
value_of c =
    cond (ltb c 10) c (cond (ltb c 19) (10 * (c - 9)) (cond (ltb c 28) (100 * (c - 18)) (cond (ltb c 37) (1000 * (c - 27))
    (cond (eqb c 39) 1000 (cond (eqb c 40) 10 (cond (eqb c 41) 2 (c - 31)))))))

-- 万 億, thousand, million, billion; 0 of a clip that is no scale
unfoldable pub scale_of : ℕ → ℕ
scale_of c =
    cond (eqb c 37) 10000 (cond (eqb c 38) 100000000 (cond (eqb c 51) 1000 (cond (eqb c 52) 1000000 (cond (eqb c 53) 1000000000 0))))

-- "a clip with a value .. is added to what has been heard since the last scale; a scale multiplies that (1 where nothing was heard) and adds it to the whole"
unfoldable pub heard_from : ℕ → ℕ → List ℕ → ℕ
heard_from whole since [] = whole + since
heard_from whole since (c ∷ cs) = heard_from (whole + max 1 since * scale_of c) (cond (eqb (scale_of c) 0) (since + value_of c) 0) cs

-- what is heard of clips, from the first on
unfoldable pub heard : List ℕ → ℕ
heard cs = heard_from 0 0 cs

-- the clips of numbers in language l: 0 to 27 in all, 28 to 38 not in English, 39 "Japanese alone", 40 and 41 "Mandarin alone", 42 to 53 "English alone"
unfoldable pub on_sheet : ℕ → ℕ → Bool
on_sheet l c =
    ltb c 28 || ((ltb c 39 && not (eqb l 2)) || ((eqb c 39 && eqb l 1) || ((ltb 39 c && (ltb c 42 && eqb l 4)) || (ltb 41 c && (ltb c 54 && eqb l 2)))))
