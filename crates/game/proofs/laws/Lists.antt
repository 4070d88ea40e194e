-- What a list of entries keeps from a fresh game on, and the refusals that it gets.
use Rattle.std.specs.Prelude.{◌≡◌, refl, Bool, true, false, cond, List, [], ◌∷◌, map, ℕ, ltb}
use Rattle.std.proofs.Common.{sym, ap, ◌∙◌, subst}
use Rattle.position.specs.declared.Position.{Position}
use Rattle.position.specs.Booking.{Result, Booking, result}
use Rattle.position.specs.Ledger.{is_set, mark, out_of_form, refusal_for, effect_of, applied, after, ledger_from, ledger}
use Rattle.position.proofs.laws.Form.{of_form}
use Rattle.position.proofs.laws.Effect.{Kept}
use Rattle.position.proofs.laws.Kept.{fresh_kept, kept_form, after_kept}
use Rattle.game.specs.declared.Game.{Game}
use Rattle.game.specs.Game.{Entry, booking, correction, fresh_game, game_refusal, with_entry, game_after, game_from}
use Rattle.game.specs.Runs.{Runs, empty, next, Every, refusals_from}
use Rattle.game.proofs.laws.After.{and_false, both_in, past_nine, as_now}

-- ---- what is kept

-- both positions are kept
abbrev pub Both : Game → Type 0
Both k = Kept k.now × Kept k.earlier

pub fresh_both : Both fresh_game
unfolding fresh_game
fresh_both = (fresh_kept, fresh_kept)

with_entry_both : (k : Game) (x : Entry) → Both k → Both (with_entry k x)
unfolding with_entry
with_entry_both k (booking b) p = (after_kept k.now b p.0, p.0)
with_entry_both k (correction r) p = (after_kept k.earlier (result r) p.1, p.1)

pub after_both : (k : Game) (x : Entry) → Both k → Both (game_after k x)
unfolding game_after
after_both k x p = go (ltb 0 (game_refusal k x))
  where
    go : (t : Bool) → Both (cond t k (with_entry k x))
    go true = p
    go false = with_entry_both k x p

from_both : (xs : List Entry) (k : Game) → Both k → Both (game_from k xs)
unfolding game_from
from_both [] k p = p
from_both (x ∷ xs) k p = from_both xs (game_after k x) (after_both k x p)

pub both_kept : (xs : List Entry) → Both (game_from fresh_game xs)
both_kept xs = from_both xs fresh_game fresh_both

pub kept_in_form : (g : Position) → Kept g → out_of_form g ≡ false
kept_in_form g h = of_form g (kept_form g h)

-- ---- the refusals then

module _ (k : Game) (p : Both k) where
  pub plain_refusal : (b : Booking) → game_refusal k (booking b) ≡ refusal_for k.now b
  plain_refusal = as_now k (rw (kept_in_form k.earlier p.1) (and_false (is_set k.correctable)))

  pub correction_refusal_lem : (r : Result) → game_refusal k (correction r) ≡ cond (is_set k.correctable) (refusal_for k.earlier (result r)) 20
  correction_refusal_lem r = past_nine k r (both_in k (kept_in_form k.now p.0) (kept_in_form k.earlier p.1))

-- ---- bookings alone

-- the game is the ledger's, booking by booking
plain_game : (k : Game) → Both k → (b : Booking) → (game_after k (booking b)).now ≡ after k.now b
unfolding game_after with_entry after
plain_game k p b = rw (plain_refusal k p b) (go (ltb 0 (refusal_for k.now b)) refl)
  where
    new : Position
    new = applied k.now (effect_of k.now b)

    go : (t : Bool) → ltb 0 (refusal_for k.now b) ≡ t
        → (cond t k (record {
          now = cond (ltb 0 (refusal_for k.now b)) k.now new;
          earlier = k.now;
          correctable = mark
              (effect_of k.now b).finishes;
        })).now ≡ cond t k.now new
    go true e = refl
    go false e = rw e

plain_from : (bs : List Booking) (k : Game) → Both k → (game_from k (map booking bs)).now ≡ ledger_from k.now bs
unfolding game_from ledger_from
plain_from [] k p = refl
plain_from (b ∷ bs) k p = plain_from bs (game_after k (booking b)) (after_both k (booking b) p) ∙ ap (λ (l : Position). ledger_from l bs) (plain_game k p b)

pub plain_ledger : (bs : List Booking) → (game_from fresh_game (map booking bs)).now ≡ ledger bs
unfolding fresh_game ledger
plain_ledger bs = plain_from bs fresh_game fresh_both

-- ---- runs

pub runs_game : {k j : Game} {xs : List Entry} {ns : List ℕ} → Runs k xs ns j → j ≡ game_from k xs
unfolding game_from
runs_game empty = refl
runs_game (next {es = xs} p r) = runs_game r ∙ ap (λ (h : Game). game_from h xs) p.1

pub runs_named : {k j : Game} {xs : List Entry} {ns : List ℕ} → Runs k xs ns j → ns ≡ refusals_from k xs
unfolding refusals_from
runs_named empty = refl
runs_named {k} (next {e = x} {n = n} {es = xs} p r) =
    ap (λ (ns : List ℕ). n ∷ ns) (runs_named r) ∙ ap (λ (h : Game). n ∷ refusals_from h xs) p.1 ∙ ap (λ (m : ℕ). m ∷ refusals_from (game_after k x) xs) p.0

pub runs_exist : (xs : List Entry) (k : Game) → Runs k xs (refusals_from k xs) (game_from k xs)
unfolding refusals_from game_from
runs_exist [] k = empty
runs_exist (x ∷ xs) k = next (refl, refl) (runs_exist xs (game_after k x))

-- what holds of a booking in a game holds of each of a list
module _ (P : Position → Booking → ℕ → Type 0) (each : (l : Position) (b : Booking) (n : ℕ) → n ≡ refusal_for l b → P l b n) where
  pub every_of : {k j : Game} {xs : List Entry} {ns : List ℕ} → Runs k xs ns j → Both k → Every P k xs ns
  every_of empty p = tt
  every_of {k} (next {e = booking b} {n = n} {es = xs} {ns = ns} q r) p = (
    each k.now b n (q.0 ∙ plain_refusal k p b),
    subst (λ (h : Game). Every P h xs ns) q.1
        (every_of r (subst Both (sym q.1) (after_both k (booking b) p))),
  )
  every_of {k} (next {e = correction r} {n = n} {es = xs} {ns = ns} q rest) p = (
    λ h. each k.earlier (result r) n (q.0 ∙ correction_refusal_lem k p r ∙ rw h),
    subst (λ (h : Game). Every P h xs ns) q.1
        (every_of rest (subst Both (sym q.1) (after_both k (correction r) p))),
  )
