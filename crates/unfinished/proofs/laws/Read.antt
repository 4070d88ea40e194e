-- What `read_of` comes to, case by case.
use Rattle.std.specs.Prelude.{ℕ, zero, suc, ◌+◌, ◌*◌, ◌-◌, ◌≤◌, ◌<◌, ◌≡◌, refl, false, ◌||◌, not, List, [], ◌∷◌, ltb, eqb, length}
use Rattle.std.proofs.Common.{arith, ltb-false, le-ltb, eqb-true, eq-eqb, ne_eqb}
use Rattle.std.proofs.lemmas.Bool.{eqb-false, not-false}
use Rattle.tiles.proofs.laws.Below.{or_both}
use Rattle.bits.specs.Bits.{bits_of}
use Rattle.hand_record.specs.search.Offsets.{held_in, padding_after}
use Rattle.hand_record.proofs.laws.Offsets as offsets
use Rattle.hand_record.proofs.laws.Read.{bool_true}
use Rattle.unfinished.specs.Unfinished.{length_of, pad_of, widths, count_in, held_of, padding_of, wrong_length, refusal_of}
use Rattle.unfinished.specs.Unfinished.{refused_with, given_by, read_of}

-- the widths fill the bytes
pub whole : (m : ℕ) → m ≤ 4
    → (3 + 8 * m + 6 * (13 - 3 * m) + pad_of m ≡ 8 * length_of m) × (81 - 10 * m + pad_of m ≡ 8 * length_of m) × (pad_of m < 8) × (length_of m ≤ 13)
    × (0 < length_of m)
whole zero h = (refl, refl, omega arith, omega arith, omega arith)
whole (suc zero) h = (refl, refl, omega arith, omega arith, omega arith)
whole (suc (suc zero)) h = (refl, refl, omega arith, omega arith, omega arith)
whole (suc (suc (suc zero))) h = (refl, refl, omega arith, omega arith, omega arith)
whole (suc (suc (suc (suc zero)))) h = (refl, refl, omega arith, omega arith, omega arith)
whole (suc (suc (suc (suc (suc m))))) h = absurd (omega arith)

-- a length of n bytes is right for m melds
pub record RightLength (n m : ℕ) : Type 0 where
  pub some : 0 < n
  pub few : m ≤ 4
  pub right : n ≡ length_of m

pub length_of_lem : (n m : ℕ) → wrong_length n m ≡ false → RightLength n m
length_of_lem n m e =
    let p = or_both (eqb n 0 || ltb 4 m) (not (eqb n (length_of m))) e in
    let q = or_both (eqb n 0) (ltb 4 m) p.0 in
    let z : n ≡ 0 → ⊥ = eqb-false n 0 q.0 in
    record { some = omega arith; few = ltb-false 4 m q.1; right = eqb-true n (length_of m) (not-false (eqb n (length_of m)) p.1) }

pub length_right : (n m : ℕ) → RightLength n m → wrong_length n m ≡ false
length_right n m f =
    let z : n ≡ 0 → ⊥ = λ q. omega (arith, f.some) in
    rw (ne_eqb n 0 z, le-ltb 4 m f.few, eq-eqb n (length_of m) f.right)

-- the tiles held and the padding, by the bits at which they start
pub held_at : (s : List ℕ) → held_of s ≡ held_in 3 (count_in s) (bits_of s)
unfolding widths
held_at s = offsets.held_at (3 ∷ []) (count_in s) (pad_of (count_in s)) (bits_of s)

pub padding_at : (s : List ℕ) → padding_of s ≡ padding_after 3 (count_in s) (pad_of (count_in s)) (bits_of s)
unfolding widths padding_of
padding_at s = offsets.padding_at (3 ∷ []) (count_in s) (pad_of (count_in s)) (bits_of s)

-- refusal 1
pub read_not : (s : List ℕ) → (RightLength (length s) (count_in s) → ⊥) → refused_with 1 ≡ read_of s
unfolding read_of refusal_of
read_not s h = rw (bool_true (wrong_length (length s) (count_in s)) (λ e. h (length_of_lem _ _ e)))

-- an input of the right length
pub read_as : (s : List ℕ) (m : ℕ) → m ≡ count_in s → RightLength (length s) m
    → given_by (held_in 3 m (bits_of s)) (padding_after 3 m (pad_of m) (bits_of s)) ≡ read_of s
unfolding read_of refusal_of given_by
read_as s m e f = rw (held_at s, padding_at s, ← e, length_right (length s) m f)
