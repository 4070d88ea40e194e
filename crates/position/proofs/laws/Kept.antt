-- What every booking keeps, and every list of them.
use Rattle.std.specs.Prelude.{◌≡◌, Bool, cond, List, [], ◌∷◌, ℕ, zero, suc, ◌+◌, ◌*◌, ◌≤◌, ◌<◌, ℤ}
use Rattle.std.proofs.Math.Path.{refl}
use Rattle.std.proofs.Math.Bool.{true, false}
use Rattle.std.proofs.Common.{⊎_elim, arith}
use borrow.Author.Tests.{ltb-false}
use Rattle.std.proofs.Math.Dec.{ltb}
use Rattle.std.specs.Int.Signed.{lt_z}
use Rattle.score.proofs.laws.Z.{up, dn, part_law}
use Rattle.position.specs.declared.Position.{Position}
use Rattle.position.specs.Booking.{Booking}
use Rattle.position.specs.Ledger.{starting_score, last_hand, floor, mark, fresh, score_at, is_declared, total_of, out_of_form, refusal_for, effect_of, applied}
use Rattle.position.specs.Ledger.{after, ledger_from, ledger}
use Rattle.position.proofs.laws.Bounds.{depth, worst, worst_low}
use Rattle.position.proofs.laws.Form.{InForm, of_form, low_not}
use Rattle.position.proofs.laws.Effect.{mark_le, none_named, Above, Kept, applied_kept}
use Rattle.position.proofs.laws.Each.{effect_fair}

above_fresh : (i : ℕ) → i < 4 → Above fresh i
unfolding fresh worst
above_fresh zero l = (omega arith, omega arith)
above_fresh (suc zero) l = (omega arith, omega arith)
above_fresh (suc (suc zero)) l = (omega arith, omega arith)
above_fresh (suc (suc (suc zero))) l = (omega arith, omega arith)
above_fresh (suc (suc (suc (suc i)))) l = absurd (omega arith)

pub fresh_kept : Kept fresh
unfolding fresh total_of
fresh_kept =
    record { dealer = omega arith; wind = omega arith; hands = omega arith; sticks = omega arith; counter = omega arith; feeders = none_named; above = above_fresh; total = refl }

above_low : (z : ℤ) (h d : ℕ) → h + d ≤ last_hand → d ≤ 1 → dn z + up starting_score ≤ up z + worst h + 1000 * d → dn z ≤ depth
above_low z h d a l b = ⊎_elim (λ (e : up z ≡ 0). omega (arith, worst_low h d a l)) (λ (e : dn z ≡ 0). omega arith) (part_law z)

pub kept_form : (g : Position) → Kept g → InForm g
kept_form g k = record {
  dealer = k.dealer;
  wind = k.wind;
  hands = k.hands;
  sticks = k.sticks;
  counter = k.counter;
  feeders = k.feeders;
  low = λ i l. above_low (score_at g i) g.hands (mark (is_declared g i)) (k.above i l).0 (mark_le (is_declared g i)) (k.above i l).1;
  total = k.total;
}

module _ (g : Position) where
  pub after_kept : (b : Booking) → Kept g → Kept (after g b)
  unfolding after
  after_kept b k = go (ltb 0 (refusal_for g b)) refl
    where
      go : (t : Bool) → ltb 0 (refusal_for g b) ≡ t → Kept (cond t g (applied g (effect_of g b)))
      go true q = k
      go false q = applied_kept g (effect_of g b) k (effect_fair g b (omega (arith, ltb-false 0 (refusal_for g b) q)))

pub ledger_kept : (bs : List Booking) (l : Position) → Kept l → Kept (ledger_from l bs)
unfolding ledger_from
ledger_kept [] l k = k
ledger_kept (b ∷ bs) l k = ledger_kept bs (after l b) (after_kept l b k)

-- ---- from a fresh game

pub never_below_floor : (bs : List Booking) → (out_of_form (ledger bs) ≡ false) × ((i : ℕ) → i < 4 → lt_z (score_at (ledger bs) i) floor ≡ false)
unfolding ledger
never_below_floor bs =
    let f = kept_form (ledger_from fresh bs) (ledger_kept bs fresh fresh_kept) in
    (of_form (ledger_from fresh bs) f, λ i l. low_not (score_at (ledger_from fresh bs) i) (f.low i l))

pub counter_within_hands : (bs : List Booking) → (ledger bs).counter ≤ (ledger bs).hands
unfolding ledger
counter_within_hands bs = (ledger_kept bs fresh fresh_kept).counter
