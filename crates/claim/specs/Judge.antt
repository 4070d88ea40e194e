-- Judge: the one answer that S-13 names for a record, claim, dealer and round wind (`ExactlyOne`: there is one, and every answer is that one).
use Rattle.std.specs.Prelude.{List, ◌≡◌, ℕ}
use Rattle.claim.specs.declared.Judged.{Judged}
use Rattle.claim.specs.IsJudged.{judged_as}
use Rattle.claim.specs.search.Judge.{found_of}

-- what they are answered: that one
unfoldable pub judged_of : List ℕ → List ℕ → ℕ → ℕ → Judged
judged_of s claim dealer wind = found_of s claim dealer wind

-- the claim is not refused, and its verdict is v
abbrev pub HasVerdict : List ℕ → List ℕ → ℕ → ℕ → ℕ → Type 0
HasVerdict s claim dealer wind v = judged_of s claim dealer wind ≡ judged_as v
