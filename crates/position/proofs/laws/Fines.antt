-- The fines of any seats at fault: what they pay the others get; of one seat they are document 01's.
use Rattle.std.specs.Prelude.{◌≡◌, refl, Bool, true, false, ◌+ℤ◌}
use Rattle.std.proofs.Math.Bool.{cond}
use Prim.Native.Nat.{ℕ, ◌+◌, ◌-◌, ◌*◌, ◌≤◌, ◌<◌}
use Rattle.std.proofs.Common.{arith}
use Rattle.std.proofs.Math.IntN.{pos, neg_ℤ}
use Rattle.tiles.specs.Below.{count, sum}
use Rattle.points.proofs.laws.Balance.{below_four}
use Rattle.score.proofs.laws.Z.{up, dn, add_law, neg_law, eq_parts}
use Rattle.position.specs.Ledger.{fine_paid, fine_of}
use Rattle.position.proofs.laws.PaidByOthers.{Even, even_zero}
pub use Rattle.position.specs.search.Fines.{fined_by}

-- ---- what the seats pay is what they get

thousands : (b : Bool) → (cond b 3000 0 ≡ 3000 * cond b 1 0) × (cond b 1 0 ≤ 1)
thousands true = (refl, omega arith)
thousands false = (refl, omega arith)

module _ (at : ℕ → Bool) where
  -- what seat i gets and what it pays, apart
  fine_law : (i : ℕ) → up (fine_of at i) + sum 4 (fine_paid at i) ≡ dn (fine_of at i) + sum 4 (λ j. fine_paid at j i)
  unfolding fine_of
  fine_law i =
      let got : ℕ = sum 4 (λ j. fine_paid at j i) in
      let paid : ℕ = sum 4 (fine_paid at i) in
      omega (arith, add_law (pos got) (neg_ℤ (pos paid)), neg_law (pos paid))

  pub fines_even : Even (fine_of at)
  fines_even = omega (arith, fine_law 0, fine_law 1, fine_law 2, fine_law 3)

  pub fines_zero : fine_of at 0 +ℤ fine_of at 1 +ℤ fine_of at 2 +ℤ fine_of at 3 ≡ pos 0
  fines_zero = even_zero (fine_of at) fines_even

  -- a seat pays 9,000 at most
  pub fine_dn : (i : ℕ) → i < 4 → dn (fine_of at i) ≤ 9000 + up (fine_of at i)
  fine_dn =
      below_four (λ i. dn (fine_of at i) ≤ 9000 + up (fine_of at i))
      (omega (arith, fine_law 0, thousands (at 0))) (omega (arith, fine_law 1, thousands (at 1)))
      (omega (arith, fine_law 2, thousands (at 2))) (omega (arith, fine_law 3, thousands (at 3)))

-- ---- by how many are at fault

by_count : (pays : Bool) (n got paid : ℕ) → n ≤ 4 → got + 3000 * cond pays 1 0 ≡ 3000 * n → paid ≡ 9000 * cond pays 1 0
    → fined_by n pays ≡ pos got +ℤ neg_ℤ (pos paid)
by_count true n got paid h e d = eq_parts _ _ (omega (arith, neg_law (pos (3000 * (4 - n))), add_law (pos got) (neg_ℤ (pos paid)), neg_law (pos paid)))
by_count false n got paid h e d = eq_parts _ _ (omega (arith, add_law (pos got) (neg_ℤ (pos paid)), neg_law (pos paid)))

module _ (at : ℕ → Bool) where
  pub fined_at : (i : ℕ) → i < 4 → fined_by (count 4 at) (at i) ≡ fine_of at i
  unfolding fine_of
  fined_at =
      let t0 = thousands (at 0) in
      let t1 = thousands (at 1) in
      let t2 = thousands (at 2) in
      let t3 = thousands (at 3) in
      let seat : (i : ℕ) → sum 4 (λ j. fine_paid at j i) + 3000 * cond (at i) 1 0 ≡ 3000 * count 4 at → sum 4 (fine_paid at i) ≡ 9000 * cond (at i) 1 0
      → fined_by (count 4 at) (at i) ≡ pos (sum 4 (λ j. fine_paid at j i)) +ℤ neg_ℤ (pos (sum 4 (fine_paid at i)))
      = λ i. by_count (at i) (count 4 at) (sum 4 (λ j. fine_paid at j i)) (sum 4 (fine_paid at i)) (omega arith) in
      below_four (λ i. fined_by (count 4 at) (at i) ≡ pos (sum 4 (λ j. fine_paid at j i)) +ℤ neg_ℤ (pos (sum 4 (fine_paid at i))))
      (seat 0 (omega arith) (omega arith)) (seat 1 (omega arith) (omega arith)) (seat 2 (omega arith) (omega arith)) (seat 3 (omega arith) (omega arith))
