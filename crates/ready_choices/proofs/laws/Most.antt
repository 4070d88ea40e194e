-- The greatest of the numbers f below n.
use Rattle.std.specs.Prelude.{◌≡◌}
use Rattle.std.proofs.Math.Path.{refl}
use Rattle.std.proofs.Math.Logic.{⊎_elim}
use Prim.Native.Nat.{ℕ, zero, suc, ◌+◌, ◌≤◌, ◌<◌, max}
use Rattle.std.proofs.Common.{eq-or-lt_of_le, le_of_suc-le-suc, not-suc-le-zero}
use Rattle.std.proofs.Math.Numerals.{add-one}
use native.Mathlib.Omega.{arith}
use Rattle.ready_choices.specs.search.Moves.{most}

module _ (f : ℕ → ℕ) where
  pub most_none : most 0 f ≡ 0
  unfolding most
  most_none = refl

  pub most_more : (i : ℕ) → most (i + 1) f ≡ max (most i f) (f i)
  unfolding most
  most_more i = rw add-one

  pub most_ge : (n i : ℕ) → i < n → f i ≤ most n f
  unfolding most
  most_ge zero i h = absurd (not-suc-le-zero h)
  most_ge (suc n) i h = ⊎_elim (λ q. rw q (omega arith)) (λ l. omega (arith, most_ge n i l)) (eq-or-lt_of_le (le_of_suc-le-suc h))

  pub most_le : (n b : ℕ) → ((i : ℕ) → i < n → f i ≤ b) → most n f ≤ b
  unfolding most
  most_le zero b h = omega arith
  most_le (suc n) b h = omega (arith, most_le n b (λ i l. h i (omega arith)), h n (omega arith))

pub most_cong : (f g : ℕ → ℕ) (n : ℕ) → ((i : ℕ) → i < n → f i ≡ g i) → most n f ≡ most n g
unfolding most
most_cong f g zero h = refl
most_cong f g (suc n) h = rw (most_cong f g n (λ i l. h i (omega arith)), h n (omega arith))
