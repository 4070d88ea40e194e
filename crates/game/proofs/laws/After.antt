-- A game after an entry, by its refusal; and what an entry meets where the game is out of form.
use Rattle.std.specs.Prelude.{◌≡◌, Bool, ◌&&◌, ◌||◌, not, ◌⊎◌, ℕ, zero, suc, ◌<◌, ◌≤◌}
use Rattle.std.proofs.Math.Path.{refl, ap}
use Rattle.std.proofs.Common.{◌∙◌, inl, inr, arith, lt-ltb}
use Rattle.std.proofs.Math.Bool.{true, false, cond}
use Rattle.position.specs.Booking.{Result, Booking, result}
use Rattle.position.specs.Ledger.{is_set, mark, is_over, not_open, out_of_form, refusal_for, effect_of}
use Rattle.position.proofs.laws.Refusals.{out_refused, out_not_open, shut_alike}
use Rattle.game.specs.declared.Game.{Game}
use Rattle.game.specs.Game.{Entry, booking, correction, game_out_of_form, game_not_open, game_refusal, with_entry, game_after}

-- ---- by its refusal

module _ (k : Game) (x : Entry) where
  pub after_refused : 0 < game_refusal k x → game_after k x ≡ k
  unfolding game_after
  after_refused h = rw (lt-ltb 0 (game_refusal k x) h)

  pub after_accepted : game_refusal k x ≡ 0 → game_after k x ≡ with_entry k x
  unfolding game_after
  after_accepted e = rw e

-- the mark after it
zero_or_one : (n : ℕ) → n ≤ 1 → (n ≡ 0) ⊎ (n ≡ 1)
zero_or_one zero h = inl refl
zero_or_one (suc zero) h = inr refl
zero_or_one (suc (suc n)) h = absurd (omega arith)

marks : (k : Game) (x : Entry) → ((with_entry k x).correctable ≡ 0) ⊎ ((with_entry k x).correctable ≡ 1)
unfolding with_entry
marks k (booking b) = zero_or_one (mark (effect_of k.now b).finishes) (go (effect_of k.now b).finishes)
  where
    go : (t : Bool) → mark t ≤ 1
    go true = omega arith
    go false = omega arith
marks k (correction r) = zero_or_one _ (omega arith)

pub correctable_marked : (k : Game) (x : Entry) → game_refusal k x ≡ 0 → ((game_after k x).correctable ≡ 0) ⊎ ((game_after k x).correctable ≡ 1)
correctable_marked k x e = rw (after_accepted k x e) (marks k x)

-- ---- in form, or out of it

or_true : (t : Bool) → t || true ≡ true
or_true true = refl
or_true false = refl

pub and_false : (t : Bool) → t && false ≡ false
and_false true = refl
and_false false = refl

module _ (k : Game) where
  -- the position that stands is out of form
  now_out : out_of_form k.now ≡ true → game_out_of_form k ≡ true
  unfolding game_out_of_form
  now_out e = rw e

  -- the one that stands is in form, and the earlier one is or is not kept
  pub now_in : out_of_form k.now ≡ false → is_set k.correctable && out_of_form k.earlier ≡ false → game_out_of_form k ≡ false
  unfolding game_out_of_form
  now_in o e = rw (o, e)

  -- the earlier one is kept and is out of form
  pub earlier_out_too : is_set k.correctable ≡ true → out_of_form k.earlier ≡ true → game_out_of_form k ≡ true
  unfolding game_out_of_form
  earlier_out_too h o = rw (h, o) (or_true (out_of_form k.now))

  pub both_in : out_of_form k.now ≡ false → out_of_form k.earlier ≡ false → game_out_of_form k ≡ false
  both_in o e = now_in o (rw e (and_false (is_set k.correctable)))

  pub out_shut : game_out_of_form k ≡ true → game_not_open k ≡ true
  unfolding game_not_open
  out_shut o = rw o (or_true (is_over k.now))

  -- then it is open where the position is
  pub in_open : is_set k.correctable && out_of_form k.earlier ≡ false → game_not_open k ≡ not_open k.now
  unfolding game_not_open game_out_of_form not_open
  in_open e = rw e (go (is_over k.now) (out_of_form k.now))
    where
      go : (s t : Bool) → s || (t || false) ≡ s || t
      go true t = refl
      go false true = refl
      go false false = refl

-- a correction in any game: 9, then 20, then what its result meets
module _ (k : Game) (r : Result) where
  pub nine_first : (out_of_form k.now ≡ true) ⊎ ((is_set k.correctable ≡ true) × (out_of_form k.earlier ≡ true)) → game_refusal k (correction r) ≡ 9
  unfolding game_refusal
  nine_first (inl e) = rw (now_out k e)
  nine_first (inr e) = rw (earlier_out_too k e.0 e.1)

  -- by what its result meets in the earlier position
  pub correction_listed : game_refusal k (correction r) ≡ cond (game_out_of_form k) 9 (cond (is_set k.correctable) (refusal_for k.earlier (result r)) 20)
  unfolding game_refusal refusal_for
  correction_listed = ap (λ (n : ℕ). cond (game_out_of_form k) 9 n) (go (is_set k.correctable) _)
    where
      go : (t : Bool) (n : ℕ) → cond (not t) 20 n ≡ cond t n 20
      go true n = refl
      go false n = refl

  pub past_nine : game_out_of_form k ≡ false → game_refusal k (correction r) ≡ cond (is_set k.correctable) (refusal_for k.earlier (result r)) 20
  past_nine o = correction_listed ∙ rw o

  pub twenty_next : out_of_form k.now ≡ false → is_set k.correctable ≡ false → game_refusal k (correction r) ≡ 20
  twenty_next o h = past_nine (now_in k o (rw h)) ∙ rw h

  pub carried_last : out_of_form k.now ≡ false → out_of_form k.earlier ≡ false → is_set k.correctable ≡ true
      → game_refusal k (correction r) ≡ refusal_for k.earlier (result r)
  carried_last o e h = past_nine (both_in k o e) ∙ rw h

-- a booking, where the earlier position is kept and out of form
module _ (k : Game) (h : is_set k.correctable ≡ true) (o : out_of_form k.earlier ≡ true) (b : Booking) where
  pub as_in_earlier : game_refusal k (booking b) ≡ refusal_for k.earlier b
  unfolding game_refusal refusal_for
  as_in_earlier = rw (out_shut k (earlier_out_too k h o), out_not_open k.earlier o) (shut_alike k.now k.earlier b)

  pub earlier_out : (game_refusal k (booking b) ≡ refusal_for k.earlier b) × ((game_refusal k (booking b) ≡ 8) ⊎ (game_refusal k (booking b) ≡ 9))
  earlier_out = (as_in_earlier, rw as_in_earlier (out_refused k.earlier o b))

-- and where it is not
pub as_now : (k : Game) → is_set k.correctable && out_of_form k.earlier ≡ false → (b : Booking) → game_refusal k (booking b) ≡ refusal_for k.now b
unfolding game_refusal refusal_for
as_now k e b = rw (in_open k e)
