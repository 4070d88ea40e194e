-- The name of a limit is that of the amount that is paid.
use Rattle.std.specs.Prelude.{◌≡◌, refl, Bool, true, false, ◌||◌, cond, [], ◌∷◌, ℕ, ltb, leb}
use Rattle.points.specs.Points.{plain, limit, ordinary}
use Rattle.speech_told.specs.Phrases.{limit_clips, is_limit, limit_clip}
use Rattle.speech_told.specs.Told.{named_amount}

pub named_as_paid : (h fu : ℕ) → named_amount (limit_clips h fu) (plain h fu) ≡ ordinary h fu
unfolding named_amount limit_clips is_limit limit_clip limit ordinary
named_as_paid h fu = go (plain h fu) (leb 5 h || ltb 2000 (plain h fu)) (leb h 5) (leb h 7) (leb h 10)
  where
    go : (a : ℕ) (paid five seven ten : Bool)
        → named_amount (cond paid (cond five 71 (cond seven 72 (cond ten 73 74)) ∷ []) []) a
        ≡ cond paid (cond five 2000 (cond seven 3000 (cond ten 4000 6000))) a
    go a false five seven ten = refl
    go a true true seven ten = refl
    go a true false true ten = refl
    go a true false false true = refl
    go a true false false false = refl
