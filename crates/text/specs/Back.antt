-- Text read back as a number: what the theorems on `digits_of` and `signed_of` go by (01, Log: "Scores print most significant digit first,
-- a minus before negatives").
use Rattle.std.specs.Prelude.{cond, List, [], ◌∷◌, ℕ, zero, suc, ◌+◌, ◌*◌, ◌-◌, eqb, ℤ, pos, negsuc}

-- "most significant digit first": the number that digits are, after those of a
abbrev pub value_from : ℕ → List ℕ → ℕ
value_from a [] = a
value_from a (b ∷ bs) = value_from (a * 10 + (b - 48)) bs

-- the number that digits are
abbrev pub number_in : List ℕ → ℕ
number_in bs = value_from 0 bs

-- minus n
abbrev pub negated : ℕ → ℤ
negated zero = pos 0
negated (suc n) = negsuc n

-- "a minus before negatives": the number with a minus (45) in front, or without
unfoldable pub signed_in : List ℕ → ℤ
signed_in [] = pos 0
signed_in (b ∷ bs) = cond (eqb b 45) (negated (number_in bs)) (pos (number_in (b ∷ bs)))
