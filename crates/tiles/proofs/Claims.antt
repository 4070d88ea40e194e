-- What the arithmetic of kinds comes to, written out.
use Rattle.std.specs.Prelude.{[], ◌∷◌, ◌≡◌, refl}
use Rattle.tiles.specs.Below.{tabulate}
use Rattle.tiles.specs.Kinds.{dora_of}

-- "Dora is the kind after the indicator (9 to 1, North to East, chun to white)": of man, of pin, of sou, of the winds, of the dragons
pub dora_of_each : tabulate 34 0 dora_of
    ≡ 1 ∷ 2 ∷ 3 ∷ 4 ∷ 5 ∷ 6 ∷ 7 ∷ 8 ∷ 0
    ∷ 10 ∷ 11 ∷ 12 ∷ 13 ∷ 14 ∷ 15 ∷ 16 ∷ 17 ∷ 9
    ∷ 19 ∷ 20 ∷ 21 ∷ 22 ∷ 23 ∷ 24 ∷ 25 ∷ 26 ∷ 18
    ∷ 28 ∷ 29 ∷ 30 ∷ 27
    ∷ 32 ∷ 33 ∷ 31 ∷ []
unfolding dora_of
dora_of_each = refl
