-- Lists of bookings: each seat's score, and the ledger.
use Rattle.std.specs.Prelude.{◌≡◌, refl, Bool, true, false, cond, List, [], ◌∷◌, ◌++◌, ℕ, ◌<◌, ltb, ℤ, pos, ◌+ℤ◌}
use Rattle.std.proofs.Common.{sym, ap, ◌∙◌}
use Rattle.std.proofs.Math.IntN.{+ℤ_idr, +ℤ_assoc}
use Rattle.tiles.proofs.laws.Tabulate.{get_d_tabulate}
use Rattle.position.specs.declared.Position.{Position}
use Rattle.position.specs.Booking.{Booking}
use Rattle.position.specs.Ledger.{starting_score, fresh, score_at, refusal_for, effect_of, applied, after, ledger_from, given_from}
use Rattle.position.proofs.laws.Effect.{score_applied}

-- ---- scores

pub fresh_score : (i : ℕ) → i < 4 → score_at fresh i ≡ starting_score
unfolding fresh
fresh_score i h = get_d_tabulate (pos 0) 4 (λ j. starting_score) i h

pub score_after : (l : Position) (b : Booking) (i : ℕ) → i < 4
    → score_at (after l b) i ≡ score_at l i +ℤ cond (ltb 0 (refusal_for l b)) (pos 0) ((effect_of l b).gives i)
unfolding after
score_after l b i h = go (ltb 0 (refusal_for l b))
  where
    go : (t : Bool) → score_at (cond t l (applied l (effect_of l b))) i ≡ score_at l i +ℤ cond t (pos 0) ((effect_of l b).gives i)
    go true = sym (+ℤ_idr (score_at l i))
    go false = score_applied l (effect_of l b) i h

pub scores_given : (bs : List Booking) (l : Position) (i : ℕ) → i < 4 → score_at (ledger_from l bs) i ≡ score_at l i +ℤ given_from l bs i
unfolding ledger_from given_from
scores_given [] l i h = sym (+ℤ_idr (score_at l i))
scores_given (b ∷ bs) l i h =
    scores_given bs (after l b) i h
    ∙ ap (λ (z : ℤ). z +ℤ given_from (after l b) bs i) (score_after l b i h)
    ∙ +ℤ_assoc (score_at l i) (cond (ltb 0 (refusal_for l b)) (pos 0) ((effect_of l b).gives i)) (given_from (after l b) bs i)

-- ---- a list after another

pub ledger_append : (bs cs : List Booking) (l : Position) → ledger_from l (bs ++ cs) ≡ ledger_from (ledger_from l bs) cs
unfolding ledger_from
ledger_append [] cs l = refl
ledger_append (b ∷ bs) cs l = ledger_append bs cs (after l b)
