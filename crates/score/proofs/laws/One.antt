-- The score is an answer, and the only one.
use Rattle.std.specs.Prelude.{List, ◌≡◌, ℕ}
use Rattle.score.specs.declared.Scored.{Scored}
use Rattle.score.specs.IsScore.{IsScore}
use Rattle.score.specs.Score.{score_of}
use Rattle.score.proofs.laws.Exact.{exactly_one}

module _ (s : List ℕ) (dealer wind : ℕ) where
  -- it is an answer
  pub is_score : IsScore s dealer wind (score_of s dealer wind)
  unfolding score_of
  is_score = (exactly_one s dealer wind).1

  -- and the only one
  pub one_score : (b : Scored) → IsScore s dealer wind b → b ≡ score_of s dealer wind
  unfolding score_of
  one_score = (exactly_one s dealer wind).2
