-- Document 01's two lines, and a negative score.
use Rattle.std.specs.Prelude.{◌≡◌, refl, [], ◌∷◌, pos, negsuc}
use Rattle.text.specs.Text.{last_digits, digits_of, signed_of, spaced, line_of}

-- "1 R 0 30000 29000 30000 30000 1" and "2 D 0 29000 32000 29000 29000 1"
pub lines :
    (line_of 1 82 0 (pos 30000 ∷ pos 29000 ∷ pos 30000 ∷ pos 30000 ∷ []) 1
    ≡ 49 ∷ 32 ∷ 82 ∷ 32 ∷ 48 ∷ 32 ∷ 51 ∷ 48 ∷ 48 ∷ 48 ∷ 48 ∷ 32 ∷ 50 ∷ 57 ∷ 48 ∷ 48 ∷ 48 ∷ 32 ∷ 51 ∷ 48 ∷ 48 ∷ 48 ∷ 48 ∷ 32 ∷ 51 ∷ 48 ∷ 48 ∷ 48 ∷ 48 ∷ 32 ∷ 49 ∷ 10 ∷ [])
    × (line_of 2 68 0 (pos 29000 ∷ pos 32000 ∷ pos 29000 ∷ pos 29000 ∷ []) 1
    ≡ 50 ∷ 32 ∷ 68 ∷ 32 ∷ 48 ∷ 32 ∷ 50 ∷ 57 ∷ 48 ∷ 48 ∷ 48 ∷ 32 ∷ 51 ∷ 50 ∷ 48 ∷ 48 ∷ 48 ∷ 32 ∷ 50 ∷ 57 ∷ 48 ∷ 48 ∷ 48 ∷ 32 ∷ 50 ∷ 57 ∷ 48 ∷ 48 ∷ 48 ∷ 32 ∷ 49 ∷ 10 ∷ [])
unfolding last_digits digits_of signed_of spaced line_of
lines = (refl, refl)

-- a negative score
pub minus : signed_of (negsuc 41) ≡ 45 ∷ 52 ∷ 50 ∷ []
unfolding last_digits digits_of signed_of
minus = refl
