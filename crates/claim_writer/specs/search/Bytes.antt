-- How the code finds a claim's bytes: tests one after the other, then the fields at their widths. What it finds is stated by `Writes`.
use Rattle.std.specs.Prelude.{Bool, true, ◌&&◌, ◌||◌, not, cond, List, [], ◌∷◌, ◌++◌, ℕ, zero, suc, ◌-◌, ltb, leb, eqb, length, take, drop}
use Rattle.tiles.specs.Groups.{is_group}
use Rattle.bits.specs.Bits.{unpack, pack, eights, fill}
use Rattle.hand_record.specs.declared.Written.{Written}
use Rattle.claim.specs.search.Claimed.{length_of, widths}
use Rattle.claim_writer.specs.declared.Claim.{Claim}
use Rattle.claim_writer.specs.Writes.{refused_with}

-- ---- the tests

-- the code at place i: of the first n one of a group, from low on; past them 68
abbrev pub in_order : ℕ → ℕ → ℕ → ℕ → Bool
in_order n i low code = cond (ltb i n) (leb low code && is_group code) (eqb code 68)

-- n codes of groups from low on that do not descend, then 68
unfoldable pub ordered : ℕ → ℕ → List ℕ → Bool
ordered n low [] = true
ordered zero low (g ∷ gs) = eqb g 68 && ordered zero g gs
ordered (suc n) low (g ∷ gs) = leb low g && is_group g && ordered n g gs

abbrev pub by_shape : Claim → Bool
by_shape c =
    cond (eqb c.shape 0) (leb c.pair 33 && leb c.place (4 - c.m) && ordered (4 - c.m) 0 c.groups)
    (leb c.shape 2 && eqb c.pair 34 && eqb c.place 0 && ordered 0 0 c.groups)

-- there are four groups, which the code knows by their type
unfoldable pub is_nameable : Claim → Bool
is_nameable c = eqb (length c.groups) 4 && (not (ltb 4 c.m || ltb 131071 c.gain.0) && by_shape c)

-- ---- the bytes

abbrev pub regular_values : Claim → List ℕ
regular_values c = 0 ∷ c.pair ∷ (take (4 - c.m) c.groups ++ (c.place ∷ c.gain.0 ∷ []))

abbrev pub other_values : Claim → List ℕ
other_values c = c.shape ∷ c.gain.0 ∷ []

abbrev pub widths_for : Claim → List ℕ
widths_for c = cond (eqb c.shape 0) (widths c.m) (2 ∷ 17 ∷ [])

abbrev pub values_for : Claim → List ℕ
values_for c = cond (eqb c.shape 0) (regular_values c) (other_values c)

-- its bits, with zeros after them
unfoldable pub packed : Claim → List ℕ
packed c = fill 56 (pack (widths_for c) (values_for c))

unfoldable pub length_for : Claim → ℕ
length_for c = length_of c.shape c.m

unfoldable pub bytes_for : Claim → List ℕ
bytes_for c = unpack (eights (length_for c)) (packed c)

-- ---- the answer

unfoldable pub found_written : Claim → List ℕ → Written
found_written c buf =
    cond (is_nameable c) (cond (ltb (length buf) (length_for c)) (refused_with 13) (record { refusal = 0; len = length_for c })) (refused_with 22)

unfoldable pub found_buffer : Claim → List ℕ → List ℕ
found_buffer c buf = cond (is_nameable c) (cond (ltb (length buf) (length_for c)) buf (bytes_for c ++ drop (length_for c) buf)) buf
