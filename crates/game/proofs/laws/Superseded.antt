-- What a correction does after each booking, in a game whose two positions are kept.
use Rattle.std.specs.Prelude.{◌≡◌, Bool}
use Rattle.std.proofs.Math.Path.{refl}
use Rattle.std.proofs.Common.{sym, ◌∙◌, arith}
use Rattle.std.proofs.Math.Bool.{true, false, cond}
use Rattle.position.specs.Booking.{Result, Booking, result}
use Rattle.position.specs.Ledger.{is_set, mark, refusal_for, effect_of}
use Rattle.position.proofs.laws.Each.{result_finishes}
use Rattle.game.specs.declared.Game.{Game}
use Rattle.game.specs.Game.{booking, correction, game_refusal, with_entry, game_after}
use Rattle.game.proofs.laws.After.{after_accepted}
use Rattle.game.proofs.laws.Lists.{Both, after_both, plain_refusal, correction_refusal_lem}

-- a booking a, accepted: after it a correction meets the position before it, or 20
module _ (k : Game) (p : Both k) (a : Booking) (r : Result) (e : game_refusal k (booking a) ≡ 0) where
  refusal_then : game_refusal (game_after k (booking a)) (correction r) ≡ cond (effect_of k.now a).finishes (refusal_for k.now (result r)) 20
  unfolding with_entry
  refusal_then =
      correction_refusal_lem (game_after k (booking a)) (after_both k (booking a) p) r ∙ rw (after_accepted k (booking a) e) (marked (effect_of k.now a).finishes)
    where
      marked : (f : Bool) → cond (is_set (mark f)) (refusal_for k.now (result r)) 20 ≡ cond f (refusal_for k.now (result r)) 20
      marked true = refl
      marked false = refl

  pub none_to_supersede : (effect_of k.now a).finishes ≡ false → game_refusal (game_after k (booking a)) (correction r) ≡ 20
  none_to_supersede f = refusal_then ∙ rw f

-- a result a, accepted
module _ (k : Game) (p : Both k) (a r : Result) (e : game_refusal k (booking (result a)) ≡ 0) where
  abbrev new : Game
  new = game_after k (booking (result a))

  pub same_refusal : game_refusal new (correction r) ≡ game_refusal k (booking (result r))
  same_refusal = refusal_then k p (result a) r e ∙ rw (result_finishes k.now a) (sym (plain_refusal k p (result r)))

  pub same_game : game_refusal k (booking (result r)) ≡ 0 → game_after new (correction r) ≡ game_after k (booking (result r))
  unfolding with_entry
  same_game z =
      after_accepted new (correction r) (same_refusal ∙ z)
      ∙ rw (after_accepted k (booking (result a)) e, after_accepted k (booking (result r)) z, result_finishes k.now r)

-- a correction that carries a, accepted
module _ (k : Game) (p : Both k) (a r : Result) (e : game_refusal k (correction a) ≡ 0) where
  abbrev put : Game
  put = game_after k (correction a)

  correctable : is_set k.correctable ≡ true
  correctable = go (is_set k.correctable) (sym (correction_refusal_lem k p a) ∙ e)
    where
      go : (h : Bool) → cond h (refusal_for k.earlier (result a)) 20 ≡ 0 → h ≡ true
      go true q = refl
      go false q = absurd (omega (arith, q))

  pub twice_refusal : game_refusal put (correction r) ≡ game_refusal k (correction r)
  unfolding with_entry
  twice_refusal = correction_refusal_lem put (after_both k (correction a) p) r ∙ rw (after_accepted k (correction a) e, correction_refusal_lem k p r, correctable)

  pub twice_game : game_refusal k (correction r) ≡ 0 → game_after put (correction r) ≡ game_after k (correction r)
  unfolding with_entry
  twice_game z = after_accepted put (correction r) (twice_refusal ∙ z) ∙ rw (after_accepted k (correction a) e, after_accepted k (correction r) z)
