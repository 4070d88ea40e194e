-- The order of readings (01, Readings: "Order").
use Rattle.std.specs.Prelude.{◌≡◌, ◌⊎◌, List, [], ◌∷◌, ◌++◌, ℕ, ◌<◌}
use Rattle.reading.specs.declared.Reading.{Reading}

-- "compare .. as a list": lists of one length, by the first number that differs
abbrev pub Lex : List ℕ → List ℕ → Type 0
Lex [] y = ⊥
Lex (a ∷ x) [] = ⊥
Lex (a ∷ x) (b ∷ y) = (a < b) ⊎ ((a ≡ b) × Lex x y)

-- "regular before seven pairs. Regular ones compare by pair kind, then groups ... as a list, then place (pair first)"
abbrev pub key_of : Reading → List ℕ
key_of r = r.shape ∷ r.pair ∷ (r.groups ++ (r.place ∷ []))

-- "Order": a comes before b
abbrev pub Before : Reading → Reading → Type 0
Before a b = Lex (key_of a) (key_of b)
