-- How long the entry is that bytes start with, and that its part lies inside them.
use Rattle.std.specs.Prelude.{◌≡◌, refl, List, [], ◌∷◌, ℕ, ◌-◌, ◌≤◌, length, take, drop}
use Rattle.std.proofs.Common.{arith, length-drop, length-take-le, take_all}
use Rattle.hand_record.proofs.laws.Lengths.{unbroken}
use Rattle.log_entry.specs.search.Lengths.{kind_in, argument_in, entry_length}
use Rattle.log_entry.proofs.laws.Records.{all_unbroken}
use Rattle.log_entry.proofs.laws.Lengths.{Told, bad, won, multi_ron, pao, plain, corrected, told, pao_form}

-- a stretch from a place on to the end
pub from_on : (n : ℕ) (s : List ℕ) → take (length s - n) (drop n s) ≡ drop n s
from_on n s = take_all (length s - n) (drop n s) (omega (arith, length-drop n s))

-- ---- the entry that bytes start with

-- its bytes, header included; none where there is no entry
abbrev pub first_part : List ℕ → List ℕ
first_part s = take (entry_length s) s

pub none_empty : (s : List ℕ) → length s ≡ 0 → entry_length s ≡ 0
unfolding entry_length
none_empty [] h = refl
none_empty (x ∷ s) h = absurd (omega arith)

-- it lies inside its bytes
pub length_inside : (s : List ℕ) → entry_length s ≤ length s
length_inside [] = omega (arith, none_empty [] refl)
length_inside (x ∷ l) = go (length_inside l) (told (x ∷ l) (omega arith))
  where
    go : entry_length l ≤ length l → Told (kind_in (x ∷ l)) (argument_in (x ∷ l)) l (entry_length (x ∷ l)) → entry_length (x ∷ l) ≤ length (x ∷ l)
    go i (bad e) = omega (arith, e)
    go i (won k a u e) = omega (arith, e, unbroken l u)
    go i (multi_ron k p o u e) = omega (arith, e, all_unbroken (argument_in (x ∷ l)) l u)
    go i (pao k a u e) = omega (arith, e, pao_form l u)
    go i (plain k h e) = omega (arith, e)
    go i (corrected k a o h p e) = omega (arith, e, i)

pub part_length : (s : List ℕ) → length (first_part s) ≡ entry_length s
part_length s = length-take-le (entry_length s) s (length_inside s)
