-- Finished hands and the counter after an accepted booking.
use Rattle.std.specs.Prelude.{◌≡◌, refl, Bool, ◌&&◌, ◌||◌, not, List, ◌∷◌, ℕ, ◌+◌, ◌≤◌, ◌<◌, eqb}
use Rattle.std.proofs.Math.Path.{sym, ap}
use Rattle.std.proofs.Common.{◌∙◌, arith}
use Rattle.std.proofs.Math.Bool.{true, false, cond, or-false}
use Rattle.hand_rons.specs.Records.{records_of, is_winner}
use Rattle.hand_rons.proofs.laws.OneTile.{winner_of}
use Rattle.position.specs.declared.Position.{Position}
use Rattle.position.specs.Booking.{Booking, result, riichi, win, draw, chombo, pao, multi_ron}
use Rattle.position.specs.Ledger.{last_hand, refusal_for, Effect, chombo_of, draw_of, is_at_fault, effect_of}
use Rattle.position.specs.search.After.{hands_after}
use Rattle.position.proofs.laws.Form.{open_of}
use Rattle.position.proofs.laws.Each.{accepted_open, result_finishes}
use Rattle.game_rules.specs.Past.{sum_since, is_result, hands_in, is_win, has_won, is_chombo, dealer_in, counters_in}
use Rattle.game_rules.specs.History.{History}
use Rattle.game_rules.proofs.laws.Accepted.{win_wins, multi_ron_wins, deals, draw_by_past}

-- ---- finished hands

pub same_finishing : (past : List Booking) (l : Position) (b : Booking) → (effect_of l b).finishes ≡ is_result b past
unfolding effect_of
same_finishing past l (riichi seat) = refl
same_finishing past l (pao holder feeder yaku) = refl
same_finishing past l (result r) = result_finishes l r

module _ (past : List Booking) (l : Position) (h : History past l) where
  pub hands_more : (b : Booking) → hands_after l (effect_of l b).finishes ≡ hands_in (b ∷ past)
  unfolding sum_since
  hands_more b = ap (hands_after l) (same_finishing past l b) ∙ go (is_result b past)
    where
      go : (t : Bool) → cond t (l.hands + 1) l.hands ≡ cond t 1 0 + hands_in past
      go true = omega (arith, h.hands)
      go false = omega (arith, h.hands)

-- an open game has fewer than 200
pub hands_few : (l : Position) (b : Booking) → refusal_for l b ≡ 0 → hands_after l (effect_of l b).finishes ≤ last_hand
hands_few l b e = go (effect_of l b).finishes (open_of l (accepted_open l b e)).hands
  where
    go : (t : Bool) → l.hands < last_hand → cond t (l.hands + 1) l.hands ≤ last_hand
    go true m = omega arith
    go false m = omega arith

-- ---- the counter

-- at a win, n being what it was
won : (some dealers : Bool) (n m : ℕ) → some ≡ true → n ≡ m → cond dealers (n + 1) 0 ≡ cond (some && not dealers) 0 (cond (dealers || false) 1 0 + m)
won some true n m e q = rw e (omega arith)
won some false n m e q = rw e

module _ (past : List Booking) (l : Position) (h : History past l) where
  pub same_counter : (b : Booking) → refusal_for l b ≡ 0 → (effect_of l b).counter ≡ counters_in (b ∷ past)
  unfolding effect_of is_winner sum_since
  same_counter (riichi seat) e = omega (arith, h.counter)
  same_counter (pao holder feeder yaku) e = omega (arith, h.counter)
  same_counter (result (chombo seat)) e = omega (arith, h.counter)
  same_counter (result (win s)) e =
      let d = (deals past l h (result (win s)) e).0 in
      ap (λ (t : Bool). cond t (l.counter + 1) 0) (ap (eqb (winner_of s)) d ∙ sym (or-false (eqb (winner_of s) (dealer_in past))))
      ∙ won (is_win (result (win s)) past) (has_won (result (win s)) (dealer_in past)) l.counter (counters_in past) (win_wins l past s e) h.counter
  same_counter (result (multi_ron number s)) e =
      let d = (deals past l h (result (multi_ron number s)) e).0 in
      let b : Booking = result (multi_ron number s) in
      ap (λ (seat : ℕ). cond (is_winner (records_of number s) seat) (l.counter + 1) 0) d
      ∙ won (is_win b past) (has_won b (dealer_in past)) l.counter (counters_in past) (multi_ron_wins l past number s e) h.counter
  same_counter (result (draw bits)) e = ap (λ (x : Effect). x.counter) (draw_by_past past l h bits) ∙ go (is_chombo (result (draw bits)) past)
    where
      go : (t : Bool) → (cond t (chombo_of l (is_at_fault l bits)) (draw_of l bits)).counter ≡ cond (not t) 1 0 + counters_in past
      go true = omega (arith, h.counter)
      go false = omega (arith, h.counter)
