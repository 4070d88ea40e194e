-- Twin runs by the groups in turn (`twins`): a run makes one where an odd number of equal ones is before it.
use Rattle.std.specs.Prelude.{◌≡◌, Bool, true, false, cond, eqb, ltb}
use Rattle.std.proofs.Math.Path.{refl}
use Prim.Native.Nat.{ℕ, zero, suc, ◌+◌, ◌/◌, ◌%◌}
use Rattle.std.proofs.Common.{zero-add, arith, lt-ltb, le-ltb, ltb-true, ltb-false, eqb-true}
use Rattle.std.proofs.lemmas.Bool.{eqb-false}
use Rattle.tiles.specs.Below.{sum_below}

-- where each k counts h k, and then x once more
module _ (h : ℕ → ℕ) (x : ℕ) where
  one_more : (n : ℕ) (e l : Bool) → eqb x n ≡ e → ltb x n ≡ l →
      (h n + cond e 1 0) / 2 + cond l (h x % 2) 0 ≡ h n / 2 + cond (ltb x (suc n)) (h x % 2) 0
  one_more n true true p q = absurd (omega (arith, eqb-true x n p, ltb-true x n q))
  one_more n true false p q = rw (eqb-true x n p, lt-ltb n (suc n) (omega arith)) (omega arith)
  one_more n false true p q = rw (lt-ltb x (suc n) (omega (arith, ltb-true x n q))) (omega arith)
  one_more n false false p q = rw (le-ltb x (suc n) (omega (arith, eqb-false x n p, ltb-false x n q))) (omega arith)

  pairs_one_more : (n : ℕ) → sum_below n (λ k. (h k + cond (eqb x k) 1 0) / 2) ≡ sum_below n (λ k. h k / 2) + cond (ltb x n) (h x % 2) 0
  unfolding sum_below
  pairs_one_more zero = rw (le-ltb x 0 (omega arith))
  pairs_one_more (suc n) = omega (arith, pairs_one_more n, one_more n (eqb x n) (ltb x n) refl refl)

none : (b : Bool) → cond b 0 0 ≡ zero
none true = refl
none false = refl

nothing : sum_below 27 (λ k. 0 / 2) ≡ 0
unfolding sum_below
nothing = refl

-- twins of the groups a, b, c, d
module _ (a b c d : ℕ) where
  pub pairs_in_turn :
      sum_below 27 (λ k. (0 + cond (eqb a k) 1 0 + cond (eqb b k) 1 0 + cond (eqb c k) 1 0 + cond (eqb d k) 1 0) / 2)
      ≡ cond (ltb b 27) (cond (eqb a b) 1 0 % 2) 0
      + cond (ltb c 27) ((cond (eqb a c) 1 0 + cond (eqb b c) 1 0) % 2) 0
      + cond (ltb d 27) ((cond (eqb a d) 1 0 + cond (eqb b d) 1 0 + cond (eqb c d) 1 0) % 2) 0
  pairs_in_turn =
      rw (← zero-add (cond (eqb a b) 1 0), ← zero-add (cond (eqb a c) 1 0), ← zero-add (cond (eqb a d) 1 0))
      (omega (
        arith,
        none (ltb a 27),
        nothing,
        pairs_one_more (λ k. 0) a 27,
        pairs_one_more (λ k. 0 + cond (eqb a k) 1 0) b 27,
        pairs_one_more (λ k. 0 + cond (eqb a k) 1 0 + cond (eqb b k) 1 0) c 27,
        pairs_one_more (λ k. 0 + cond (eqb a k) 1 0 + cond (eqb b k) 1 0 + cond (eqb c k) 1 0) d 27,
      ))
