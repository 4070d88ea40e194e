-- The winner gets what the others pay: whoever pays, the four sum to 0, and no seat loses more than it pays.
use Rattle.std.specs.Prelude.{◌≡◌, Bool, List, ℕ, ◌+◌, ◌*◌, ◌≤◌, ◌<◌, ℤ, pos, neg_ℤ, ◌+ℤ◌}
use Rattle.std.proofs.Math.Path.{refl}
use Rattle.std.proofs.Common.{sym, ne_eqb}
use Rattle.std.proofs.Math.Bool.{true, false, cond}
use native.Mathlib.Omega.{arith}
use Rattle.std.proofs.Math.Dec.{eqb}
use Rattle.tiles.specs.Below.{sum}
use Rattle.points.proofs.laws.Balance.{below_four}
use Rattle.score.proofs.laws.Z.{up, dn, add_law, neg_law, eq_parts}
use Rattle.position.specs.Ledger.{hand_for, paid_by_others}

-- what the winner of record s gets of k sticks
abbrev pub sticks_to : List ℕ → ℕ → ℕ → ℤ
sticks_to s k i = cond (eqb i (hand_for s).fields.winner) (pos (1000 * k)) (pos 0)

-- ---- four gifts that sum to 0

abbrev pub Even : (ℕ → ℤ) → Type 0
Even f = up (f 0) + up (f 1) + up (f 2) + up (f 3) ≡ dn (f 0) + dn (f 1) + dn (f 2) + dn (f 3)

pub even_zero : (f : ℕ → ℤ) → Even f → f 0 +ℤ f 1 +ℤ f 2 +ℤ f 3 ≡ pos 0
even_zero f e = eq_parts _ _ (omega (arith, e, add_law (f 0) (f 1), add_law (f 0 +ℤ f 1) (f 2), add_law (f 0 +ℤ f 1 +ℤ f 2) (f 3)))

-- ---- what is settled

module _ (p : ℕ → ℕ) where
  less : (i : ℕ) → (up (neg_ℤ (pos (p i))) ≡ 0) × (dn (neg_ℤ (pos (p i))) ≡ p i)
  less i = neg_law (pos (p i))

  pub paid_by_others_even : (w : ℕ) → w < 4 → Even (paid_by_others w p)
  unfolding paid_by_others
  paid_by_others_even =
      below_four (λ w. Even (paid_by_others w p)) (omega (arith, less 1, less 2, less 3)) (omega (arith, less 0, less 2, less 3))
      (omega (arith, less 0, less 1, less 3)) (omega (arith, less 0, less 1, less 2))

  -- the winner loses nothing
  pub paid_by_others_dn : (w i m : ℕ) → (eqb i w ≡ false → p i ≤ m) → dn (paid_by_others w p i) ≤ m
  unfolding paid_by_others
  paid_by_others_dn w i m h = go (eqb i w) refl
    where
      go : (a : Bool) → eqb i w ≡ a → dn (cond a (pos (sum 4 (λ j. cond (eqb j w) 0 (p j)))) (neg_ℤ (pos (p i)))) ≤ m
      go true e = omega arith
      go false e = omega (arith, less i, h e)

-- ---- two payments

apart : (b : Bool) (x y : ℕ) → cond b 0 (x + y) ≡ cond b 0 x + cond b 0 y
apart true x y = refl
apart false x y = refl

pub both_pay : (b : ℕ → Bool) (x y : ℕ → ℕ) → sum 4 (λ i. cond (b i) 0 (x i + y i)) ≡ sum 4 (λ i. cond (b i) 0 (x i)) + sum 4 (λ i. cond (b i) 0 (y i))
both_pay b x y = rw (apart (b 0) (x 0) (y 0), apart (b 1) (x 1) (y 1), apart (b 2) (x 2) (y 2), apart (b 3) (x 3) (y 3)) (omega arith)

-- ---- one seat pays a

nothing : (b : Bool) → ◌≡◌ {A = ℕ} (cond b 0 0) 0
nothing true = refl
nothing false = refl

pub one_pays : (a w p : ℕ) → p < 4 → (w ≡ p → ⊥) → sum 4 (λ i. cond (eqb i w) 0 (cond (eqb i p) a 0)) ≡ a
one_pays a w =
    let z0 = nothing (eqb 0 w) in
    let z1 = nothing (eqb 1 w) in
    let z2 = nothing (eqb 2 w) in
    let z3 = nothing (eqb 3 w) in
    below_four (λ p. (w ≡ p → ⊥) → sum 4 (λ i. cond (eqb i w) 0 (cond (eqb i p) a 0)) ≡ a)
    (λ k. rw (ne_eqb 0 w (λ e. k (sym e))) (omega arith)) (λ k. rw (ne_eqb 1 w (λ e. k (sym e))) (omega arith))
    (λ k. rw (ne_eqb 2 w (λ e. k (sym e))) (omega arith)) (λ k. rw (ne_eqb 3 w (λ e. k (sym e))) (omega arith))

-- each other seat pays a
pub three_pay : (a w : ℕ) → w < 4 → sum 4 (λ i. cond (eqb i w) 0 a) ≡ 3 * a
three_pay a = below_four (λ w. sum 4 (λ i. cond (eqb i w) 0 a) ≡ 3 * a) (omega arith) (omega arith) (omega arith) (omega arith)

-- nobody pays
pub none_pays : (w : ℕ) → sum 4 (λ i. cond (eqb i w) 0 0) ≡ 0
none_pays w = omega (arith, nothing (eqb 0 w), nothing (eqb 1 w), nothing (eqb 2 w), nothing (eqb 3 w))
