-- Sums over the numbers below n: of one term, of sums, in other order.
use Rattle.std.specs.Prelude.{◌≡◌, refl, ℕ, zero, suc, ◌+◌, ◌≤◌, ◌<◌}
use Rattle.std.proofs.Common.{⊎_elim, eq-or-lt_of_le, le_of_suc-le-suc, arith}
use Rattle.tiles.specs.Below.{sum_below}
use Rattle.tiles.specs.Groups.{at_kind}
use Rattle.reading.proofs.laws.Groups.{at_same, at_other}

pub total_suc : (k : ℕ) (f : ℕ → ℕ) → sum_below (suc k) f ≡ sum_below k f + f k
unfolding sum_below
total_suc k f = refl

pub total_zero : (f : ℕ → ℕ) → sum_below 0 f ≡ 0
unfolding sum_below
total_zero f = refl

pub total_mono : (f : ℕ → ℕ) (k n : ℕ) → k ≤ n → sum_below k f ≤ sum_below n f
total_mono f k zero h = let q : k ≡ 0 = omega arith in rw q (omega arith)
total_mono f k (suc n) h =
    ⊎_elim (λ q. rw q (omega arith)) (λ l. omega (arith, total_suc n f, total_mono f k n (le_of_suc-le-suc l))) (eq-or-lt_of_le h)

pub total_cong : (f g : ℕ → ℕ) (n : ℕ) → ((k : ℕ) → k < n → f k ≡ g k) → sum_below n f ≡ sum_below n g
unfolding sum_below
total_cong f g zero h = refl
total_cong f g (suc n) h = rw (total_cong f g n (λ k l. h k (omega arith)), h n (omega arith))

pub total_add : (f g : ℕ → ℕ) (n : ℕ) → sum_below n (λ k. f k + g k) ≡ sum_below n f + sum_below n g
total_add f g zero = omega (arith, total_zero f, total_zero g, total_zero (λ k. f k + g k))
total_add f g (suc n) = omega (arith, total_suc n f, total_suc n g, total_suc n (λ k. f k + g k), total_add f g n)

pub total_none : (f : ℕ → ℕ) (n : ℕ) → ((k : ℕ) → k < n → f k ≡ 0) → sum_below n f ≡ 0
total_none f zero h = total_zero f
total_none f (suc n) h = omega (arith, total_suc n f, total_none f n (λ k l. h k (omega arith)), h n (omega arith))

pub total_le_of : (f g : ℕ → ℕ) (n : ℕ) → ((k : ℕ) → k < n → f k ≤ g k) → sum_below n f ≤ sum_below n g
total_le_of f g zero h = omega (arith, total_zero f, total_zero g)
total_le_of f g (suc n) h = omega (arith, total_suc n f, total_suc n g, total_le_of f g n (λ k l. h k (omega arith)), h n (omega arith))

-- one term
pub total_at : (a c n : ℕ) → a < n → sum_below n (at_kind a c) ≡ c
total_at a c zero h = absurd (omega arith)
total_at a c (suc n) h =
    ⊎_elim
    (λ q. rw q (omega (arith, total_suc n (at_kind n c), total_none (at_kind n c) n (λ k l. at_other n c k (omega arith)), at_same n c)))
    (λ l. omega (arith, total_suc n (at_kind a c), total_at a c n l, at_other a c n (omega arith)))
    (eq-or-lt_of_le (le_of_suc-le-suc h))
