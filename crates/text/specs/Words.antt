-- A quoted text as bytes.
use Rattle.std.specs.Prelude.{List, [], ◌∷◌, ℕ}
use Prim.Native.Char.{code}
use Prim.Native.String.{String, [] as nothing, ◌∷◌ as ◌then◌}

-- the code of each letter: "HAN" is 72, 65, 78
abbrev pub bytes_of : String → List ℕ
bytes_of nothing = []
bytes_of (c then s) = code c ∷ bytes_of s
