-- How the code reads a claim: field by field, its faults one after the other. What it finds is stated by `Names` of specs/Claim.
use Rattle.std.specs.Prelude.{Bool, true, ◌&&◌, ◌||◌, not, cond, List, [], ◌∷◌, ◌++◌, ℕ, ◌+◌, ◌*◌, ◌-◌, ltb, leb, eqb, length, get_or, take, drop, replicate, Option, None, Some}
use Rattle.tiles.specs.Groups.{is_group}
use Rattle.bits.specs.Bits.{val, unpack, bits_of}
use Rattle.reading.specs.declared.Reading.{Reading}
use Rattle.reading.specs.Reading.{of_shape}
use Rattle.claim.specs.declared.Claimed.{Claimed}

-- ---- its fields

-- the number that the w bits from `at` on are
abbrev pub field : ℕ → ℕ → List ℕ → ℕ
field at w b = val 0 (take w (drop at b))

abbrev pub shape_in : List ℕ → ℕ
shape_in b = field 0 2 b

abbrev pub pair_in : List ℕ → ℕ
pair_in b = field 2 6 b

unfoldable pub codes_in : ℕ → List ℕ → List ℕ
codes_in m b = unpack (replicate (4 - m) 7) (drop 8 b)

abbrev pub place_in : ℕ → List ℕ → ℕ
place_in m b = field (8 + 7 * (4 - m)) 3 b

-- the gain: after shape, pair, codes and place, or after the shape alone
abbrev pub gain_at : ℕ → ℕ → ℕ
gain_at shape m = cond (eqb shape 0) (11 + 7 * (4 - m)) 2

unfoldable pub gain_of : ℕ → List ℕ → ℕ
gain_of m b = field (gain_at (shape_in b) m) 17 b

-- the bytes that this takes: 28 + 7(4 - m) bits for regular, 19 for the others
abbrev pub length_of : ℕ → ℕ → ℕ
length_of shape m = cond (eqb shape 0) (get_or (7 ∷ 7 ∷ 6 ∷ 5 ∷ 4 ∷ []) m 0) 3

-- and the bits that are left
abbrev pub pad_of : ℕ → ℕ → ℕ
pad_of shape m = cond (eqb shape 0) (get_or (0 ∷ 7 ∷ 6 ∷ 5 ∷ 4 ∷ []) m 0) 5

unfoldable pub padding_in : ℕ → List ℕ → ℕ
padding_in m b = field (gain_at (shape_in b) m + 17) (pad_of (shape_in b) m) b

-- the widths of a regular claim, in order
abbrev pub widths : ℕ → List ℕ
widths m = 2 ∷ 6 ∷ (replicate (4 - m) 7 ++ (3 ∷ 17 ∷ []))

-- ---- its faults

-- each code names a group, none is under c or under the code before it
unfoldable pub ascends : ℕ → List ℕ → Bool
ascends c [] = true
ascends c (g ∷ gs) = leb c g && is_group g && ascends g gs

unfoldable pub faulty_regular : ℕ → List ℕ → Bool
faulty_regular m b = ltb 33 (pair_in b) || not (ascends 0 (codes_in m b)) || ltb (4 - m) (place_in m b)

-- of n bytes, by its bits
unfoldable pub faulty_in : ℕ → ℕ → List ℕ → Bool
faulty_in m n b = not (eqb n (length_of (shape_in b) m)) || eqb (shape_in b) 3 || (eqb (shape_in b) 0 && faulty_regular m b) || ltb 0 (padding_in m b)

-- ---- what it names

unfoldable pub reading_in : ℕ → List ℕ → Reading
reading_in m b =
    cond (eqb (shape_in b) 0) (record { shape = 0; pair = pair_in b; groups = codes_in m b ++ replicate m 68; place = place_in m b }) (of_shape (shape_in b))

-- x, where there is no fault
abbrev pub named_in : {A : Type 0} → Bool → A → Option A
named_in faulty x = cond faulty None (Some x)

unfoldable pub claimed_in : ℕ → ℕ → List ℕ → Option Claimed
claimed_in m n b = named_in (faulty_in m n b) (record { reading = reading_in m b; gain = record { 0 = gain_of m b } })

-- of its bytes
abbrev pub claimed_of : ℕ → List ℕ → Option Claimed
claimed_of m s = claimed_in m (length s) (bits_of s)
