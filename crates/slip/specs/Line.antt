-- A line of a slip (02, S-2), as bytes: 32 is a space, 10 a line feed.
use Rattle.std.specs.Prelude.{List, [], ◌∷◌, ◌++◌, ℕ, ◌-◌, length, replicate}
use Rattle.text.specs.Words.{bytes_of}

-- n spaces
abbrev pub spaces : ℕ → List ℕ
spaces n = replicate n 32

-- "lines of 24 characters and a line feed"; "Each line has a label, left in 10 columns, and a value, right in 14"
unfoldable pub slip_line : List ℕ → List ℕ → List ℕ
slip_line label value = label ++ (spaces (10 - length label) ++ (spaces (14 - length value) ++ (value ++ (10 ∷ []))))

-- "Labels are HAN, FU, SEAT 0, SEAT 1, SEAT 2, SEAT 3"
unfoldable pub labels : List (List ℕ)
labels = bytes_of "HAN" ∷ bytes_of "FU" ∷ bytes_of "SEAT 0" ∷ bytes_of "SEAT 1" ∷ bytes_of "SEAT 2" ∷ bytes_of "SEAT 3" ∷ []
