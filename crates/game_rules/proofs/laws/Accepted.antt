-- What an accepted booking is by its past: the game was not over, a win has a winner, and a draw is a chombo where a declared seat is not ready.
use Rattle.std.specs.Prelude.{◌≡◌, refl, Bool, true, false, ◌&&◌, ◌||◌, List, [], ◌∷◌, ℕ, ◌/◌, ◌<◌, leb, length}
use Rattle.std.proofs.Common.{sym, ◌∙◌, arith, leb-false, eq-eqb}
use Rattle.std.proofs.Math.Path.{ap}
use Rattle.std.proofs.Math.Bool.{not, cond}
use Rattle.tiles.specs.Below.{any, any_below, count}
use Rattle.tiles.proofs.laws.Below.{or_both, any_of, some_cong}
use Rattle.hand_record.proofs.laws.Bounds.{read_bounds}
use Rattle.hand_rons.specs.Records.{records_of, is_winner}
use Rattle.hand_rons.proofs.laws.OneTile.{AllRead, records_length_lem, winner_of}
use Rattle.position.specs.declared.Position.{Position}
use Rattle.position.specs.Booking.{Booking, result, win, draw, multi_ron}
use Rattle.position.specs.Ledger.{declarations, is_ready, refusal_for, Effect, chombo_of, draw_of, is_at_fault, effect_of}
use Rattle.position.proofs.laws.Form.{open_of}
use Rattle.position.proofs.laws.Accepted.{win_accepted}
use Rattle.position.proofs.laws.Each.{accepted_open}
use Rattle.position.proofs.laws.MultiRon.{multi_ron_accepted}
use Rattle.game_rules.specs.Past.{has_declared, hands_in, is_win, is_chombo, passes_in, dealer_in}
use Rattle.game_rules.specs.History.{History}

-- ---- a win

-- records that read have a winner among the seats
some_wins : (ss : List (List ℕ)) → 0 < length ss → AllRead ss → any 4 (is_winner ss) ≡ true
unfolding is_winner
some_wins [] n r = absurd (omega arith)
some_wins (s ∷ ss) n r =
    let b = read_bounds s r.0 in
    any_of (is_winner (s ∷ ss)) 4 (winner_of s) (omega (arith, b.winner)) (rw (eq-eqb (winner_of s) (winner_of s) refl))

module _ (l : Position) (past : List Booking) where
  pub win_wins : (s : List ℕ) → refusal_for l (result (win s)) ≡ 0 → is_win (result (win s)) past ≡ true
  win_wins s e = some_wins (s ∷ []) (omega arith) ((win_accepted l s e).1, tt)

  pub multi_ron_wins : (number : ℕ) (s : List ℕ) → refusal_for l (result (multi_ron number s)) ≡ 0 → is_win (result (multi_ron number s)) past ≡ true
  multi_ron_wins number s e =
      let a = multi_ron_accepted l number s e in
      some_wins (records_of number s) (omega (arith, records_length_lem number s, a.some)) a.read

-- ---- a draw: a chombo, or none

pub draw_either : (P : Effect → Type 0) (l : Position) (bits : ℕ) → P (chombo_of l (is_at_fault l bits)) → P (draw_of l bits) → P (effect_of l (result (draw bits)))
unfolding effect_of
draw_either P l bits fined drawn = go (any 4 (is_at_fault l bits))
  where
    go : (t : Bool) → P (cond t (chombo_of l (is_at_fault l bits)) (draw_of l bits))
    go true = fined
    go false = drawn

-- ---- the position by its past

module _ (past : List Booking) (l : Position) (h : History past l) where
  pub few_passes : (b : Booking) → refusal_for l b ≡ 0 → passes_in past < 8
  few_passes b e =
      let q : leb 8 (passes_in past) || leb 200 (hands_in past) ≡ false = sym h.over ∙ (open_of l (accepted_open l b e)).over in
      leb-false 8 (passes_in past) (or_both (leb 8 (passes_in past)) (leb 200 (hands_in past)) q).0

  pub deals : (b : Booking) → refusal_for l b ≡ 0 → (l.dealer ≡ dealer_in past) × (l.wind ≡ passes_in past / 4)
  deals b e = h.deal (few_passes b e)

  same_fault : (bits : ℕ) → any 4 (is_at_fault l bits) ≡ is_chombo (result (draw bits)) past
  unfolding any_below
  same_fault bits =
      some_cong (is_at_fault l bits) (λ i. has_declared past i && not (is_ready bits i)) 4 (λ i m. ap (λ (t : Bool). t && not (is_ready bits i)) (h.declared i m))

  pub draw_by_past : (bits : ℕ) → effect_of l (result (draw bits)) ≡ cond (is_chombo (result (draw bits)) past) (chombo_of l (is_at_fault l bits)) (draw_of l bits)
  unfolding effect_of
  draw_by_past bits = ap (λ (t : Bool). cond t (chombo_of l (is_at_fault l bits)) (draw_of l bits)) (same_fault bits)

  pub same_declarations : declarations l ≡ count 4 (has_declared past)
  same_declarations = rw (h.declared 0 (omega arith), h.declared 1 (omega arith), h.declared 2 (omega arith), h.declared 3 (omega arith))
