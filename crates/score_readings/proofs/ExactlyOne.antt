-- For every record, dealer, round wind and number there is exactly one answer.
use Rattle.std.specs.Prelude.{List, ℕ}
use Rattle.tiles.specs.One.{ExactlyOne}
use Rattle.score_readings.specs.IsNth.{IsNth}
use Rattle.score_readings.specs.NthOf.{nth_of}
use Rattle.score_readings.proofs.laws.Exact as laws
use Rattle.score_readings.proofs.laws.One as one

-- there is an answer, and every answer is that one
pub exactly_one : (s : List ℕ) (dealer wind n : ℕ) → ExactlyOne (IsNth s dealer wind n)
exactly_one = laws.exactly_one

-- `nth_of` is that one answer
pub nth_is_nth : (s : List ℕ) (dealer wind n : ℕ) → IsNth s dealer wind n (nth_of s dealer wind n)
nth_is_nth = one.is_nth
