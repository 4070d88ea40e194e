-- No payment, and no gain, is over 48,000.
use Rattle.std.specs.Prelude.{◌≡◌, Bool, ◌||◌, cond, eqb}
use Rattle.std.proofs.Math.Path.{refl}
use Rattle.std.proofs.Common.{sym, ◌∙◌, mul-le-mul, arith, ne_eqb}
use Rattle.std.proofs.Math.Bool.{true, false}
use Prim.Native.Nat.{ℕ, zero, suc, ◌+◌, ◌*◌, ◌/◌, ◌≤◌, ◌<◌}
use Rattle.std.proofs.Math.Nat.{zero-mul}
use Rattle.tiles.specs.Below.{sum}
use Rattle.tiles.proofs.laws.Below.{cond_le}
use Rattle.points.specs.declared.Seats.{Seats}
use Rattle.points.specs.Points.{hundreds, times_a, pays, gain}
use Rattle.points.proofs.laws.Balance.{winner_pays_nothing}

hundreds_le : (x n : ℕ) → x ≤ 100 * n → hundreds x ≤ 100 * n
unfolding hundreds
hundreds_le x n h = omega arith

times_le : (s : Seats) (ron : Bool) (seat : ℕ) → times_a s ron seat ≤ 6
unfolding times_a
times_le s ron seat =
    cond_le (eqb s.winner seat) _ _ 6 (omega arith)
    (cond_le ron _ _ 6 (cond_le (eqb s.discarder seat) _ _ 6 (cond_le (eqb s.winner s.dealer) _ _ 6 (omega arith) (omega arith)) (omega arith))
    (cond_le (eqb s.winner s.dealer || eqb s.dealer seat) _ _ 6 (omega arith) (omega arith)))

tsumo_times_le : (s : Seats) (seat : ℕ) → times_a s false seat ≤ 2
unfolding times_a
tsumo_times_le s seat =
    cond_le (eqb s.winner seat) _ _ 2 (omega arith) (cond_le (eqb s.winner s.dealer || eqb s.dealer seat) _ _ 2 (omega arith) (omega arith))

module _ (s : Seats) (a : ℕ) (h : a ≤ 8000) where
  pub pays_le : (ron : Bool) (seat : ℕ) → pays s ron a seat ≤ 48000
  unfolding pays
  pays_le ron seat = hundreds_le (times_a s ron seat * a) 480 (mul-le-mul (times_le s ron seat) h)

  tsumo_pays_le : (seat : ℕ) → pays s false a seat ≤ 16000
  unfolding pays
  tsumo_pays_le seat = hundreds_le (times_a s false seat * a) 160 (mul-le-mul (tsumo_times_le s seat) h)

  -- who did not discard pays nothing on ron
  ron_pays_nothing : (seat : ℕ) → (s.discarder ≡ seat → ⊥) → pays s true a seat ≡ 0
  unfolding pays times_a hundreds
  ron_pays_nothing seat n = go (eqb s.winner seat)
    where
      go : (b : Bool) → (cond b 0 (cond (eqb s.discarder seat) (cond (eqb s.winner s.dealer) 6 4) 0) * a + 99) / 100 * 100 ≡ 0
      go true = rw (zero-mul a)
      go false = rw (ne_eqb s.discarder seat n, zero-mul a)

  gain_tsumo_le : s.winner < 4 → gain s false a ≤ 48000
  unfolding gain
  gain_tsumo_le w = go s.winner w refl
    where
      go : (n : ℕ) → n < 4 → s.winner ≡ n → sum 4 (pays s false a) ≤ 48000
      go zero l e = omega (arith, winner_pays_nothing s false a 0 e, tsumo_pays_le 1, tsumo_pays_le 2, tsumo_pays_le 3)
      go (suc zero) l e = omega (arith, winner_pays_nothing s false a 1 e, tsumo_pays_le 0, tsumo_pays_le 2, tsumo_pays_le 3)
      go (suc (suc zero)) l e = omega (arith, winner_pays_nothing s false a 2 e, tsumo_pays_le 0, tsumo_pays_le 1, tsumo_pays_le 3)
      go (suc (suc (suc zero))) l e = omega (arith, winner_pays_nothing s false a 3 e, tsumo_pays_le 0, tsumo_pays_le 1, tsumo_pays_le 2)
      go (suc (suc (suc (suc n)))) l e = absurd (omega arith)

  gain_ron_le : gain s true a ≤ 48000
  unfolding gain
  gain_ron_le = go s.discarder refl
    where
      none : (d seat : ℕ) → s.discarder ≡ d → (d ≡ seat → ⊥) → pays s true a seat ≡ 0
      none d seat e n = ron_pays_nothing seat (λ q. n (sym e ∙ q))

      go : (d : ℕ) → s.discarder ≡ d → sum 4 (pays s true a) ≤ 48000
      go zero e = omega (arith, pays_le true 0, none 0 1 e (λ q. omega arith), none 0 2 e (λ q. omega arith), none 0 3 e (λ q. omega arith))
      go (suc zero) e = omega (arith, pays_le true 1, none 1 0 e (λ q. omega arith), none 1 2 e (λ q. omega arith), none 1 3 e (λ q. omega arith))
      go (suc (suc zero)) e = omega (arith, pays_le true 2, none 2 0 e (λ q. omega arith), none 2 1 e (λ q. omega arith), none 2 3 e (λ q. omega arith))
      go (suc (suc (suc n))) e =
          omega (
            arith,
            pays_le true 3,
            none (suc (suc (suc n))) 0 e (λ q. omega arith),
            none (suc (suc (suc n))) 1 e (λ q. omega arith),
            none
                (suc (suc (suc n))) 2 e (λ q. omega arith),
          )

  pub gain_le : (ron : Bool) → s.winner < 4 → gain s ron a ≤ 48000
  gain_le true w = gain_ron_le
  gain_le false w = gain_tsumo_le w
