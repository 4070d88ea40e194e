-- A claim (02, S-13): its bits, and the reading and the gain that it names. Nothing here says how it is judged.
use Rattle.std.specs.Prelude.{List, [], ◌∷◌, ◌++◌, ◌⊎◌, ◌≡◌, ℕ, ◌+◌, ◌-◌, ◌/◌, ◌≤◌, length, drop, replicate}
use Rattle.bits.specs.Bits.{val, unpack, width_of, bits_of}
use Rattle.reading.specs.declared.Reading.{Reading}
use Rattle.reading.specs.Reading.{Ascends, of_shape}

-- the bytes s are the values vs at the widths ws "and zero bits to the byte"; not "a claim of another length", nor "a padding bit set"
pub record HasFields (s ws vs : List ℕ) : Type 0 where
  pub size : length s ≡ (width_of ws + 7) / 8
  pub values : unpack ws (bits_of s) ≡ vs
  pub padding : val 0 (drop (width_of ws) (bits_of s)) ≡ 0

-- the claim s, for a hand with m melds, names the reading r and the gain: it has none of the faults of 22
pub data Names (m : ℕ) (s : List ℕ) : Reading → ℕ → Type 0 where
  -- "shape 2 bits (0 regular", "the pair 6 bits, 4 − m group codes of 7 bits ascending, place 3 bits (0 pair, then groups from 1), then .. the winner's
  -- gain 17 bits"; no "pair over 33, a group code that names no group, descending codes, a place over 4 − m"
  regular : (pair place gain : ℕ) (codes : List ℕ)
      → HasFields s (2 ∷ 6 ∷ (replicate (4 - m) 7 ++ (3 ∷ 17 ∷ []))) (0 ∷ pair ∷ (codes ++ (place ∷ gain ∷ [])))
      → pair ≤ 33 → Ascends 0 codes → place ≤ 4 - m
      → Names m s (record { shape = 0; pair = pair; groups = codes ++ replicate m 68; place = place }) gain
  -- "1 seven pairs, 2 orphans)", not "shape 3": the gain follows, for every m
  other : (shape gain : ℕ) → HasFields s (2 ∷ 17 ∷ []) (shape ∷ gain ∷ []) → (shape ≡ 1) ⊎ (shape ≡ 2) → Names m s (of_shape shape) gain
