-- What Judge answers is an answer, and the only one.
use Rattle.std.specs.Prelude.{List, ◌≡◌, ℕ}
use Rattle.claim.specs.declared.Judged.{Judged}
use Rattle.claim.specs.IsJudged.{IsJudged}
use Rattle.claim.specs.Judge.{judged_of}
use Rattle.claim.proofs.laws.Exact.{exactly_one}

module _ (s claim : List ℕ) (dealer wind : ℕ) where
  -- it is an answer
  pub is_judged : IsJudged s claim dealer wind (judged_of s claim dealer wind)
  unfolding judged_of
  is_judged = (exactly_one s claim dealer wind).1

  -- and the only one
  pub one_answer : (b : Judged) → IsJudged s claim dealer wind b → b ≡ judged_of s claim dealer wind
  unfolding judged_of
  one_answer = (exactly_one s claim dealer wind).2
