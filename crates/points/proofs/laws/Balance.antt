-- The winner pays nothing, and what the others pay is what the winner gains.
use Rattle.std.specs.Prelude.{◌≡◌, Bool, ℤ, pos, neg_ℤ, ◌+ℤ◌, ◌-ℤ◌, eqb, get_or}
use Rattle.std.proofs.Math.Path.{refl}
use Rattle.std.proofs.Math.Bool.{true, false, cond}
use Prim.Native.Nat.{ℕ, zero, suc, ◌+◌, ◌*◌, ◌<◌}
use Rattle.std.proofs.Math.Nat.{zero-mul}
use Rattle.std.proofs.Common.{one-mul, arith}
use borrow.Author.Tests.{eq-eqb, ne_eqb, eqb-true}
use Rattle.std.proofs.Math.IntN.{+ℤ_idl, +ℤ_comm, +ℤ_assoc, +ℤ-neg_ℤ_cancel, +ℤ_invr}
use Rattle.tiles.specs.Below.{sum}
use Rattle.points.specs.Points.{sum_of_four, times_a, hundreds, pays, gain, change, changes}
use Rattle.points.specs.declared.Seats.{Seats}

abbrev seats : ℕ → ℕ → ℕ → Seats
seats winner dealer discarder = record { winner = winner; dealer = dealer; discarder = discarder }

less : ℕ → ℤ
less x = pos 0 -ℤ pos x

-- what three pay is what one gets, g
module _ (x y z g : ℕ) (e : g ≡ z + y + x) where
  first : pos g +ℤ less x +ℤ less y +ℤ less z ≡ pos 0
  unfolding less
  first =
      rw (e, +ℤ_idl (neg_ℤ (pos z)), +ℤ_idl (neg_ℤ (pos y)), +ℤ_idl (neg_ℤ (pos x)), +ℤ-neg_ℤ_cancel (pos (z + y)) (pos x), +ℤ-neg_ℤ_cancel (pos z) (pos y))
      (+ℤ_invr (pos z))

  second : less x +ℤ pos g +ℤ less y +ℤ less z ≡ pos 0
  second = rw (+ℤ_comm (less x) (pos g)) first

  third : less x +ℤ less y +ℤ pos g +ℤ less z ≡ pos 0
  third = rw (+ℤ_comm (less x +ℤ less y) (pos g), ← +ℤ_assoc (pos g) (less x) (less y)) first

  fourth : less x +ℤ less y +ℤ less z +ℤ pos g ≡ pos 0
  fourth =
      rw (+ℤ_comm (less x +ℤ less y +ℤ less z) (pos g), ← +ℤ_assoc (pos g) (less x +ℤ less y) (less z), ← +ℤ_assoc (pos g) (less x) (less y)) first

-- the winner pays nothing
pub winner_pays_nothing : (s : Seats) (ron : Bool) (a seat : ℕ) → s.winner ≡ seat → pays s ron a seat ≡ 0
unfolding pays times_a hundreds
winner_pays_nothing s ron a seat e = rw (eq-eqb s.winner seat e, zero-mul a)

-- so a seat pays what it pays as one of the others
paid_by_other :
    (s : Seats) (ron : Bool) (a seat : ℕ) (b : Bool) → eqb s.winner seat ≡ b →
    pays s ron a seat ≡ cond b 0 (pays s ron a seat)
paid_by_other s ron a seat true e = winner_pays_nothing s ron a seat (eqb-true s.winner seat e)
paid_by_other s ron a seat false e = refl

pub gain_of_others : (s : Seats) (ron : Bool) (a : ℕ) → gain s ron a ≡ sum 4 (λ seat. cond (eqb s.winner seat) 0 (pays s ron a seat))
unfolding gain
gain_of_others s ron a =
    let same : (seat : ℕ) → pays s ron a seat ≡ cond (eqb s.winner seat) 0 (pays s ron a seat) =
    λ seat. paid_by_other s ron a seat (eqb s.winner seat) refl in
    omega (arith, same 0, same 1, same 2, same 3)

module _ (d x : ℕ) (ron : Bool) (a : ℕ) where
  pub sum_zero : (w : ℕ) → w < 4 → sum_of_four (changes (seats w d x) ron a) ≡ pos 0
  unfolding changes change gain less
  sum_zero zero h =
      let p = pays (seats 0 d x) ron a in
      first (p 1) (p 2) (p 3) _ (omega (arith, winner_pays_nothing (seats 0 d x) ron a 0 refl))
  sum_zero (suc zero) h =
      let p = pays (seats 1 d x) ron a in
      second (p 0) (p 2) (p 3) _ (omega (arith, winner_pays_nothing (seats 1 d x) ron a 1 refl))
  sum_zero (suc (suc zero)) h =
      let p = pays (seats 2 d x) ron a in
      third (p 0) (p 1) (p 3) _ (omega (arith, winner_pays_nothing (seats 2 d x) ron a 2 refl))
  sum_zero (suc (suc (suc zero))) h =
      let p = pays (seats 3 d x) ron a in
      fourth (p 0) (p 1) (p 2) _ (omega (arith, winner_pays_nothing (seats 3 d x) ron a 3 refl))
  sum_zero (suc (suc (suc (suc n)))) h = absurd (omega arith)

-- what holds at 0, 1, 2 and 3 holds below 4
pub below_four : (P : ℕ → Type 0) → P 0 → P 1 → P 2 → P 3 → (n : ℕ) → n < 4 → P n
below_four P p q r t zero h = p
below_four P p q r t (suc zero) h = q
below_four P p q r t (suc (suc zero)) h = r
below_four P p q r t (suc (suc (suc zero))) h = t
below_four P p q r t (suc (suc (suc (suc n)))) h = absurd (omega arith)

-- the change at a seat
pub change_at : (s : Seats) (ron : Bool) (a seat : ℕ) → seat < 4 → get_or (changes s ron a) seat (pos 0) ≡ change s ron a seat
unfolding changes
change_at s ron a = below_four (λ n. get_or (changes s ron a) n (pos 0) ≡ change s ron a n) refl refl refl refl

-- the winner gets the gain, and another seat pays its payment
module _ (s : Seats) (ron : Bool) (a : ℕ) where
  pub winner_gets : s.winner < 4 → get_or (changes s ron a) s.winner (pos 0) ≡ pos (gain s ron a)
  unfolding change
  winner_gets h = rw (change_at s ron a s.winner h, eq-eqb s.winner s.winner refl)

  pub other_pays : (seat : ℕ) → seat < 4 → (s.winner ≡ seat → ⊥) → get_or (changes s ron a) seat (pos 0) ≡ pos 0 -ℤ pos (pays s ron a seat)
  unfolding change
  other_pays seat h n = rw (change_at s ron a seat h, ne_eqb s.winner seat n)

-- by ron the discarder alone pays
module _ (w d a : ℕ) where
  discarder_pays : (x : ℕ) → (w ≡ x → ⊥) → pays (seats w d x) true a x ≡ hundreds (cond (eqb w d) 6 4 * a)
  unfolding pays times_a
  discarder_pays x n = rw (ne_eqb w x n, eq-eqb x x refl)

  other_pays_nothing : (x seat : ℕ) → eqb x seat ≡ false → pays (seats w d x) true a seat ≡ 0
  unfolding pays times_a hundreds
  other_pays_nothing x seat e = rw (e, same (eqb w seat), zero-mul a)
    where
      same : (b : Bool) → cond b 0 0 ≡ zero
      same true = refl
      same false = refl

  pub ron_payment : (x : ℕ) → x < 4 → (w ≡ x → ⊥) → gain (seats w d x) true a ≡ hundreds (cond (eqb w d) 6 4 * a)
  unfolding gain
  ron_payment =
      below_four (λ x. (w ≡ x → ⊥) → gain (seats w d x) true a ≡ hundreds (cond (eqb w d) 6 4 * a))
      (λ n. omega (arith, discarder_pays 0 n, other_pays_nothing 0 1 refl, other_pays_nothing 0 2 refl, other_pays_nothing 0 3 refl))
      (λ n. omega (arith, discarder_pays 1 n, other_pays_nothing 1 0 refl, other_pays_nothing 1 2 refl, other_pays_nothing 1 3 refl))
      (λ n. omega (arith, discarder_pays 2 n, other_pays_nothing 2 0 refl, other_pays_nothing 2 1 refl, other_pays_nothing 2 3 refl))
      (λ n. omega (arith, discarder_pays 3 n, other_pays_nothing 3 0 refl, other_pays_nothing 3 1 refl, other_pays_nothing 3 2 refl))

-- by tsumo the three others pay
module _ (x a : ℕ) where
  zero_times : hundreds (0 * a) ≡ 0
  unfolding hundreds
  zero_times = rw (zero-mul a)

  one_times : hundreds (1 * a) ≡ hundreds a
  one_times = rw (one-mul a)

  abbrev Tsumo : ℕ → ℕ → Type 0
  Tsumo w d = gain (seats w d x) false a ≡ cond (eqb w d) (3 * hundreds (2 * a)) (2 * hundreds a + hundreds (2 * a))

  pub tsumo_payments : (w : ℕ) → w < 4 → (d : ℕ) → d < 4 → Tsumo w d
  unfolding gain pays times_a
  tsumo_payments =
      let z = zero_times in
      let o = one_times in
      below_four (λ w. (d : ℕ) → d < 4 → Tsumo w d)
      (below_four (Tsumo 0) (omega arith) (omega arith) (omega arith) (omega arith))
      (below_four (Tsumo 1) (omega arith) (omega arith) (omega arith) (omega arith))
      (below_four (Tsumo 2) (omega arith) (omega arith) (omega arith) (omega arith))
      (below_four (Tsumo 3) (omega arith) (omega arith) (omega arith) (omega arith))
