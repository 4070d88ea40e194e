-- Judge: for every record, claim, dealer and round wind there is exactly one answer that S-13 names.
use Rattle.std.specs.Prelude.{List, ℕ}
use Rattle.tiles.specs.One.{ExactlyOne}
use Rattle.claim.specs.IsJudged.{IsJudged}
use Rattle.claim.specs.Judge.{judged_of}
use Rattle.claim.proofs.laws.Exact as laws
use Rattle.claim.proofs.laws.One as one

-- there is an answer, and every answer is that one
pub exactly_one_answer : (s claim : List ℕ) (dealer wind : ℕ) → ExactlyOne (IsJudged s claim dealer wind)
exactly_one_answer = laws.exactly_one

-- `judged_of` is that one answer
pub judged_is_judged : (s claim : List ℕ) (dealer wind : ℕ) → IsJudged s claim dealer wind (judged_of s claim dealer wind)
judged_is_judged = one.is_judged
