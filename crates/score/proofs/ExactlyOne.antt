-- Score: for every record, dealer and round wind there is exactly one answer that the papers name, and that is the score.
use Rattle.std.specs.Prelude.{List, ℕ}
use Rattle.tiles.specs.One.{ExactlyOne}
use Rattle.score.specs.IsScore.{IsScore}
use Rattle.score.specs.Score.{score_of}
use Rattle.score.proofs.laws.Exact as laws
use Rattle.score.proofs.laws.One as one

-- there is an answer, and every answer is that one
pub exactly_one : (s : List ℕ) (dealer wind : ℕ) → ExactlyOne (IsScore s dealer wind)
exactly_one = laws.exactly_one

-- the score is that one answer
pub score_is_score : (s : List ℕ) (dealer wind : ℕ) → IsScore s dealer wind (score_of s dealer wind)
score_is_score = one.is_score
