-- Score: the one answer that the papers name for a record, a dealer and a round wind (`ExactlyOne`: there is one, and every answer is that one).
use Rattle.std.specs.Prelude.{List, ℕ}
use Rattle.score.specs.declared.Scored.{Scored}
use Rattle.score.specs.search.HandScore.{found_of}

-- the score: that one answer
unfoldable pub score_of : List ℕ → ℕ → ℕ → Scored
score_of s dealer wind = found_of s dealer wind
