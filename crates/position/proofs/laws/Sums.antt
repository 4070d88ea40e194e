-- Sums of scores and of what seats are given, as the machine makes them: each number passes through its 32 bits, `B32`, and no sum of two amounts wraps.
use Rattle.std.specs.Prelude.{◌≡◌, List, [], ◌∷◌, ℕ, zero, suc, ◌+◌, ◌≤◌, ◌<◌, ◌^◌, ℤ, pos, neg_ℤ, ◌+ℤ◌, ◌-ℤ◌, get_or}
use Rattle.std.proofs.Common.{arith, SFits, to_z, of_z, to_z-of_z}
use Rattle.std.proofs.Math.IntN.{+ℤ_idl}
use Rattle.std.specs.Int.{w32}
use Rattle.std.proofs.Math.Facts.{to_z_pos}
use Rattle.tiles.specs.Below.{tabulate}
use Rattle.score.proofs.laws.Z.{Within, neg_law, within_add, parts_mag}
use Rattle.position.proofs.laws.Bounds.{amount, most_gift}
pub use Rattle.position.specs.search.Amounts.{Small, Changes, Gifts, paid}

-- a number as it stands in 32 bits
abbrev pub B32 : ℤ → ℤ
B32 z = to_z w32 (of_z w32 z)

pub fit32 : (z : ℤ) (h : ℕ) → Within z h → h < 2 ^ 31 → SFits w32 z
fit32 z h w l = record { sfits = parts_mag z (2 ^ 31) (omega arith) (omega arith) }

-- a score and what it is given
module _ (a b : ℤ) (wa : Within a amount) (wb : Within b amount) where
  f : SFits w32 (a +ℤ b)
  f = fit32 (a +ℤ b) (amount + amount) (within_add a b amount amount wa wb) (omega arith)

  pub plus_fits : SFits w32 (B32 a +ℤ B32 b)
  plus_fits = rw (to_z-of_z (fit32 a amount wa (omega arith)), to_z-of_z (fit32 b amount wb (omega arith))) f

  pub plus_is : B32 (B32 a +ℤ B32 b) ≡ a +ℤ b
  plus_is = rw (to_z-of_z (fit32 a amount wa (omega arith)), to_z-of_z (fit32 b amount wb (omega arith)), to_z-of_z f)

-- a small number that a call gave, as it stands in a local
pub held : (z : ℤ) → Within z amount → B32 z ≡ z
held z w = to_z-of_z (fit32 z amount w (omega arith))

-- a small number of 32 bits, and 0 less it
pub neg_within : (n h : ℕ) → n ≤ h → Within (neg_ℤ (pos n)) h
neg_within n h l = (omega (arith, neg_law (pos n)), omega (arith, neg_law (pos n)))

module _ (n : ℕ) (h : n ≤ amount) where
  pub plain : to_z w32 n ≡ pos n
  plain = let l : n < 2 ^ 31 = omega arith in to_z_pos w32 l

  less : pos 0 -ℤ to_z w32 n ≡ neg_ℤ (pos n)
  less = rw plain (+ℤ_idl (neg_ℤ (pos n)))

  pub less_fits : SFits w32 (pos 0 -ℤ to_z w32 n)
  less_fits = rw less (fit32 (neg_ℤ (pos n)) amount (neg_within n amount h) (omega arith))

  pub less_is : B32 (pos 0 -ℤ to_z w32 n) ≡ neg_ℤ (pos n)
  less_is = rw less (held (neg_ℤ (pos n)) (neg_within n amount h))

-- ---- four numbers

each_within : (h : ℕ) (a b c d : ℤ) → Within a h → Within b h → Within c h → Within d h → (i : ℕ) → Within (get_or (a ∷ b ∷ c ∷ d ∷ []) i (pos 0)) h
each_within h a b c d p q r s zero = p
each_within h a b c d p q r s (suc zero) = q
each_within h a b c d p q r s (suc (suc zero)) = r
each_within h a b c d p q r s (suc (suc (suc zero))) = s
each_within h a b c d p q r s (suc (suc (suc (suc i)))) = (omega arith, omega arith)

-- the sums of two times four
pub paid_within : (a b : List ℤ) (x y : ℕ) → ((i : ℕ) → Within (get_or a i (pos 0)) x) → ((i : ℕ) → Within (get_or b i (pos 0)) y) → (i : ℕ)
    → Within (get_or (paid a b) i (pos 0)) (x + y)
paid_within a b x y p q =
    let sum : (i : ℕ) → Within (get_or a i (pos 0) +ℤ get_or b i (pos 0)) (x + y) = λ i. within_add (get_or a i (pos 0)) (get_or b i (pos 0)) x y (p i) (q i) in
    each_within (x + y) (get_or a 0 (pos 0) +ℤ get_or b 0 (pos 0)) (get_or a 1 (pos 0) +ℤ get_or b 1 (pos 0)) (get_or a 2 (pos 0) +ℤ get_or b 2 (pos 0))
    (get_or a 3 (pos 0) +ℤ get_or b 3 (pos 0)) (sum 0) (sum 1) (sum 2) (sum 3)

-- four times nothing
pub zeros_gifts : Gifts (pos 0 ∷ pos 0 ∷ pos 0 ∷ pos 0 ∷ [])
zeros_gifts =
    each_within most_gift (pos 0) (pos 0) (pos 0) (pos 0) (omega arith, omega arith) (omega arith, omega arith) (omega arith, omega arith)
    (omega arith, omega arith)

pub gifts_small : (l : List ℤ) → Gifts l → Small l
gifts_small l w i h = let x = w i in (omega arith, omega arith)

pub zeros_small : Small (pos 0 ∷ pos 0 ∷ pos 0 ∷ pos 0 ∷ [])
zeros_small = gifts_small (pos 0 ∷ pos 0 ∷ pos 0 ∷ pos 0 ∷ []) zeros_gifts

-- four numbers within h, each that of its seat
pub four_seats : (h : ℕ) (l : List ℤ) (a b c d : ℤ) (f : ℕ → ℤ) → l ≡ a ∷ b ∷ c ∷ d ∷ [] → (a ≡ f 0) × Within a h → (b ≡ f 1) × Within b h
    → (c ≡ f 2) × Within c h → (d ≡ f 3) × Within d h
    → (l ≡ tabulate 4 0 f) × ((i : ℕ) → Within (get_or l i (pos 0)) h)
four_seats h l a b c d f e p q r s = rw e (rw (p.0, q.0, r.0, s.0), each_within h a b c d p.1 q.1 r.1 s.1)

-- four small numbers
pub four_small : (l : List ℤ) (a b c d : ℤ) (f : ℕ → ℤ) → l ≡ a ∷ b ∷ c ∷ d ∷ [] → (a ≡ f 0) × Within a amount → (b ≡ f 1) × Within b amount
    → (c ≡ f 2) × Within c amount → (d ≡ f 3) × Within d amount → (l ≡ tabulate 4 0 f) × Small l
four_small l a b c d f e p q r s = let y = four_seats amount l a b c d f e p q r s in (y.0, λ i k. y.1 i)
