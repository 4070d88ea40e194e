-- An accepted riichi leaves the seat 0 or more.
use Rattle.std.specs.Prelude.{◌≡◌, refl, false, ℕ, ℤ, pos, ◌+ℤ◌}
use Rattle.std.proofs.Common.{arith}
use borrow.Author.Tests.{eq-eqb}
use Rattle.std.proofs.Math.IntN.{neg_ℤ}
use Rattle.std.specs.Int.Signed.{lt_z}
use Rattle.score.proofs.laws.Z.{add_law, lt_z_false, le_lt_z}
use Rattle.position.specs.declared.Position.{Position}
use Rattle.position.specs.Booking.{riichi}
use Rattle.position.specs.Ledger.{score_at, refusal_for, riichi_gives, effect_of, after}
use Rattle.position.proofs.laws.Accepted.{riichi_accepted}
use Rattle.position.proofs.laws.Lists.{score_after}

less_1000 : (z : ℤ) → lt_z z (pos 1000) ≡ false → lt_z (z +ℤ neg_ℤ (pos 1000)) (pos 0) ≡ false
less_1000 z h = le_lt_z (z +ℤ neg_ℤ (pos 1000)) (pos 0) (omega (arith, lt_z_false z (pos 1000) h, add_law z (neg_ℤ (pos 1000))))

module _ (l : Position) (seat : ℕ) where
  pub never_on_credit : refusal_for l (riichi seat) ≡ 0 → lt_z (score_at (after l (riichi seat)) seat) (pos 0) ≡ false
  unfolding effect_of riichi_gives
  never_on_credit e =
      let y = riichi_accepted l seat e in
      let given : score_at (after l (riichi seat)) seat ≡ score_at l seat +ℤ neg_ℤ (pos 1000) =
      rw (e, eq-eqb seat seat refl) at (score_after l (riichi seat) seat (omega (arith, y.0))) in
      rw given (less_1000 (score_at l seat) y.3)
