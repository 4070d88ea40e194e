-- A line of `tally` field by field, as the code writes it.
use Rattle.std.specs.Prelude.{◌≡◌, List, [], ◌∷◌, ◌++◌, ℕ, zero, suc, ℤ}
use Rattle.std.proofs.Common.{append_assoc}
use Rattle.text.specs.Text.{digits_of, spaced, score_text, line_of}

-- the first k scores, a space after each
unfoldable pub first_scores : List ℤ → ℕ → List ℕ
first_scores s zero = []
first_scores s (suc k) = first_scores s k ++ (score_text s k ++ (32 ∷ []))

pub line_fields : (e letter r : ℕ) (s : List ℤ) (k : ℕ)
    → (((((digits_of e ++ (32 ∷ [])) ++ (letter ∷ [])) ++ (32 ∷ [])) ++ (digits_of r ++ (32 ∷ []))) ++ first_scores s 4) ++ (digits_of k ++ (10 ∷ []))
    ≡ line_of e letter r s k
unfolding line_of spaced first_scores
line_fields e l r s k = simp append_assoc
