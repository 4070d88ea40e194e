-- What holds of every payment (01, Fu and points).
use Rattle.std.specs.Prelude.{◌≡◌, Bool, true, false, cond, ℕ, ◌+◌, ◌*◌, ◌<◌, eqb, pos, ◌-ℤ◌, get_or}
use Rattle.tiles.specs.Below.{sum}
use Rattle.points.specs.Points.{hundreds, pays, gain, changes, sum_of_four}
use Rattle.points.specs.declared.Seats.{Seats}
use Rattle.points.proofs.laws.Balance.{sum_zero, gain_of_others, winner_gets, other_pays, ron_payment, tsumo_payments}

-- "four changes summing to 0"
pub changes_sum_zero : (s : Seats) (ron : Bool) (a : ℕ) → s.winner < 4 → sum_of_four (changes s ron a) ≡ pos 0
changes_sum_zero s ron a h = sum_zero s.dealer s.discarder ron a s.winner h

-- "A reading's gain is what these payments give the winner": what the others pay; the winner's change is the gain, and another seat's what it pays
pub record GainIsPayments (s : Seats) (ron : Bool) (a : ℕ) : Type 0 where
  pub others : gain s ron a ≡ sum 4 (λ seat. cond (eqb s.winner seat) 0 (pays s ron a seat))
  pub got : s.winner < 4 → get_or (changes s ron a) s.winner (pos 0) ≡ pos (gain s ron a)
  pub paid : (seat : ℕ) → seat < 4 → (s.winner ≡ seat → ⊥) → get_or (changes s ron a) seat (pos 0) ≡ pos 0 -ℤ pos (pays s ron a seat)

-- so it is of every payment
pub gain_is_payments : (s : Seats) (ron : Bool) (a : ℕ) → GainIsPayments s ron a
gain_is_payments s ron a = record { others = gain_of_others s ron a; got = winner_gets s ron a; paid = other_pays s ron a }

-- "ron, 4A to a child, 6A to the dealer": one payment
pub gain_by_ron : (s : Seats) (a : ℕ) → s.discarder < 4 → (s.winner ≡ s.discarder → ⊥) →
    gain s true a ≡ hundreds (cond (eqb s.winner s.dealer) 6 4 * a)
gain_by_ron s a = ron_payment s.winner s.dealer a s.discarder

-- "child tsumo, children A, dealer 2A; dealer tsumo, 2A each": three payments
pub gain_by_tsumo : (s : Seats) (a : ℕ) → s.winner < 4 → s.dealer < 4 →
    gain s false a ≡ cond (eqb s.winner s.dealer) (3 * hundreds (2 * a)) (2 * hundreds a + hundreds (2 * a))
gain_by_tsumo s a w = tsumo_payments s.discarder a s.winner w s.dealer
