-- Each of the four places is joined.
use Rattle.std.proofs.Common.{◌≡◌, ℕ, List, [], ◌∷◌, length, get_or, refl, ◌∙◌, arith}
use Rattle.score_best.specs.search.HandCommon.{joined}
use Rattle.score_best.proofs.joined.Goals as goal

-- a list of four is its places
four : (xs : List ℕ) → length xs ≡ 4 → xs ≡ get_or xs 0 0 ∷ get_or xs 1 0 ∷ get_or xs 2 0 ∷ get_or xs 3 0 ∷ []
four [] h = absurd (omega arith)
four (a ∷ []) h = absurd (omega arith)
four (a ∷ b ∷ []) h = absurd (omega arith)
four (a ∷ b ∷ d ∷ []) h = absurd (omega arith)
four (a ∷ b ∷ d ∷ e ∷ []) h = refl
four (a ∷ b ∷ d ∷ e ∷ f ∷ xs) h = absurd (omega arith)

pub returns : goal.returns
unfolding joined
returns c =
    let v = c.loop-place.invariant in
    four _ v.0 ∙ rw (v.1 0 (omega arith), v.1 1 (omega arith), v.1 2 (omega arith), v.1 3 (omega arith))
