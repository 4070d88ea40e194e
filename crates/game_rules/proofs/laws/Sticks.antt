-- The sticks and the declared seats after an accepted booking.
use Rattle.std.specs.Prelude.{◌≡◌, true, ◌||◌, cond, List, ◌∷◌, ℕ, ◌+◌, ◌-◌, ◌≤◌, ◌<◌, ltb}
use Rattle.std.proofs.Math.Path.{refl, ap}
use Rattle.std.proofs.Common.{sym, ◌∙◌, arith, lt-ltb, eq-eqb}
use Rattle.std.proofs.Math.Bool.{Bool, false}
use Rattle.std.proofs.Math.Dec.{eqb}
use Rattle.tiles.specs.Below.{any, count}
use Rattle.tiles.proofs.laws.Below.{any_of}
use Rattle.hand_rons.specs.Records.{is_winner}
use Rattle.position.specs.declared.Position.{Position}
use Rattle.position.specs.Booking.{Booking, result, riichi, win, draw, chombo, pao, multi_ron}
use Rattle.position.specs.Ledger.{declarations, refusal_for, Effect, chombo_of, draw_of, is_at_fault, effect_of}
use Rattle.position.proofs.laws.Form.{open_of}
use Rattle.position.proofs.laws.Accepted.{riichi_accepted}
use Rattle.position.proofs.laws.Each.{accepted_open}
use Rattle.game_rules.specs.Past.{sum_since, count_since, is_result, is_riichi_of, has_declared, is_win, is_chombo, sticks_put, sticks_returned}
use Rattle.game_rules.specs.History.{History}
use Rattle.game_rules.proofs.laws.Accepted.{win_wins, multi_ron_wins, draw_either, draw_by_past, same_declarations}

-- ---- the declared seats

-- one more of a count that is asked whether it is 0
pub one_more : (t : Bool) (n : ℕ) → t || ltb 0 n ≡ ltb 0 (cond t 1 0 + n)
one_more true n = sym (lt-ltb 0 (1 + n) (omega arith))
one_more false n = ap (ltb 0) (let z : n ≡ 0 + n = omega arith in z)

module _ (past : List Booking) (l : Position) (h : History past l) where
  pub same_declared : (b : Booking) (i : ℕ) → i < 4 → (effect_of l b).declared i ≡ has_declared (b ∷ past) i
  unfolding effect_of sum_since
  same_declared (riichi seat) i m = ap (λ (t : Bool). eqb i seat || t) (h.declared i m) ∙ one_more (eqb i seat) (count_since is_result (is_riichi_of i) past)
  same_declared (pao holder feeder yaku) i m = h.declared i m ∙ one_more false (count_since is_result (is_riichi_of i) past)
  same_declared (result (win s)) i m = refl
  same_declared (result (chombo seat)) i m = refl
  same_declared (result (multi_ron number s)) i m = refl
  same_declared (result (draw bits)) i m = draw_either (λ x. x.declared i ≡ false) l bits refl refl

-- ---- the sticks

-- back from a chombo: d of n sticks
back : (n d c put returned : ℕ) → d ≤ n → d ≡ c → n + returned ≡ put → (n - d) + (c + returned) ≡ 0 + put
back n d c put returned m e q = omega arith

-- a win takes all
taken : (some : Bool) (put returned : ℕ) → some ≡ true → 0 + cond some 0 returned ≡ cond some 0 put
taken some put returned e = rw e refl

one_put : (seat : ℕ) → seat ≤ 3 → any 4 (λ i. eqb i seat) ≡ true
one_put seat m = any_of (λ i. eqb i seat) 4 seat (omega arith) (eq-eqb seat seat refl)

module _ (past : List Booking) (l : Position) (h : History past l) where
  -- what goes back at an accepted booking
  returns : (b : Booking) → refusal_for l b ≡ 0 → (l.sticks - declarations l) + (count 4 (has_declared past) + sticks_returned past) ≡ 0 + sticks_put past
  returns b e =
      back l.sticks (declarations l) (count 4 (has_declared past)) (sticks_put past) (sticks_returned past)
      (open_of l (accepted_open l b e)).form.sticks (same_declarations past l h) h.sticks

  pub same_sticks : (b : Booking) → refusal_for l b ≡ 0 → (effect_of l b).sticks + sticks_returned (b ∷ past) ≡ sticks_put (b ∷ past)
  unfolding effect_of is_winner sum_since
  same_sticks (riichi seat) e = rw (one_put seat (riichi_accepted l seat e).0) (omega (arith, h.sticks))
  same_sticks (pao holder feeder yaku) e = omega (arith, h.sticks)
  same_sticks (result (chombo seat)) e = returns (result (chombo seat)) e
  same_sticks (result (win s)) e = taken (is_win (result (win s)) past) _ _ (win_wins l past s e)
  same_sticks (result (multi_ron number s)) e = taken (is_win (result (multi_ron number s)) past) _ _ (multi_ron_wins l past number s e)
  same_sticks (result (draw bits)) e = ap (λ (x : Effect). x.sticks + sticks_returned (result (draw bits) ∷ past)) (draw_by_past past l h bits) ∙ go c
    where
      c : Bool
      c = is_chombo (result (draw bits)) past

      go : (t : Bool)
          → (cond t (chombo_of l (is_at_fault l bits)) (draw_of l bits)).sticks + (cond t (count 4 (has_declared past)) 0 + sticks_returned past) ≡ 0 + sticks_put past
      go true = returns (result (draw bits)) e
      go false = omega (arith, h.sticks)
