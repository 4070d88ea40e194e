-- Each booking that is accepted: the position was open, and its effect is fair. Each result finishes a hand, and nothing else does.
use Rattle.std.specs.Prelude.{◌≡◌, Bool, cond, ℕ}
use Rattle.std.proofs.Math.Path.{refl}
use Rattle.std.proofs.Math.Bool.{true, false}
use Rattle.std.proofs.lemmas.Bool.{false≢true}
use Rattle.std.proofs.Math.Dec.{eqb}
use Rattle.tiles.specs.Below.{any}
use Rattle.tiles.proofs.laws.Below.{or_both}
use Rattle.position.specs.declared.Position.{Position}
use Rattle.position.specs.Booking.{Result, Booking, result, riichi, win, draw, chombo, pao, multi_ron}
use Rattle.position.specs.Ledger.{is_over, out_of_form, not_open, refusal_for, chombo_of, draw_of, is_at_fault, effect_of}
use Rattle.position.proofs.laws.Accepted.{riichi_accepted, win_accepted, draw_accepted, chombo_accepted, pao_accepted}
use Rattle.position.proofs.laws.Effect.{Fair}
use Rattle.position.proofs.laws.Fair.{riichi_fair, win_fair, draw_fair, chombo_fair, pao_fair}
use Rattle.position.proofs.laws.MultiRon.{multi_ron_accepted, multi_ron_fair}

module _ (g : Position) where
  pub accepted_open : (b : Booking) → refusal_for g b ≡ 0 → not_open g ≡ false
  accepted_open (riichi seat) e = (riichi_accepted g seat e).1
  accepted_open (result (win s)) e = (win_accepted g s e).0
  accepted_open (result (draw bits)) e = draw_accepted g bits e
  accepted_open (result (chombo seat)) e = (chombo_accepted g seat e).1
  accepted_open (pao holder feeder yaku) e = (pao_accepted g holder feeder yaku e).2
  accepted_open (result (multi_ron number s)) e = (multi_ron_accepted g number s e).opened

  pub accepted_form : (b : Booking) → refusal_for g b ≡ 0 → out_of_form g ≡ false
  unfolding not_open
  accepted_form b e = (or_both (is_over g) (out_of_form g) (accepted_open b e)).1

  pub effect_fair : (b : Booking) → refusal_for g b ≡ 0 → Fair g (effect_of g b)
  unfolding effect_of
  effect_fair (riichi seat) e = riichi_fair g seat e
  effect_fair (result (win s)) e = win_fair g s e
  effect_fair (result (draw bits)) e = draw_fair g bits e
  effect_fair (result (chombo seat)) e = chombo_fair g (λ i. eqb i seat) (chombo_accepted g seat e).1
  effect_fair (pao holder feeder yaku) e = pao_fair g holder feeder yaku e
  effect_fair (result (multi_ron number s)) e = multi_ron_fair g number s e

  -- a draw is a chombo or not
  pub result_finishes : (r : Result) → (effect_of g (result r)).finishes ≡ true
  unfolding effect_of
  result_finishes (win s) = refl
  result_finishes (chombo seat) = refl
  result_finishes (multi_ron number s) = refl
  result_finishes (draw bits) = go (any 4 (is_at_fault g bits))
    where
      go : (t : Bool) → (cond t (chombo_of g (is_at_fault g bits)) (draw_of g bits)).finishes ≡ true
      go true = refl
      go false = refl

  pub finished_by : (b : Booking) → (effect_of g b).finishes ≡ true → (r : Result) × (b ≡ result r)
  unfolding effect_of
  finished_by (riichi seat) e = absurd (false≢true e)
  finished_by (pao holder feeder yaku) e = absurd (false≢true e)
  finished_by (result r) e = (r, refl)

  pub riichi_goes_on : (seat : ℕ) → (effect_of g (riichi seat)).finishes ≡ false
  unfolding effect_of
  riichi_goes_on seat = refl

  pub pao_goes_on : (holder feeder yaku : ℕ) → (effect_of g (pao holder feeder yaku)).finishes ≡ false
  unfolding effect_of
  pao_goes_on holder feeder yaku = refl
