-- The n-th reading is an answer, and the only one.
use Rattle.std.specs.Prelude.{List, ◌≡◌, ℕ}
use Rattle.score_readings.specs.declared.NthReading.{NthReading}
use Rattle.score_readings.specs.IsNth.{IsNth}
use Rattle.score_readings.specs.NthOf.{nth_of}
use Rattle.score_readings.proofs.laws.Exact.{exactly_one}

module _ (s : List ℕ) (dealer wind n : ℕ) where
  -- it is an answer
  pub is_nth : IsNth s dealer wind n (nth_of s dealer wind n)
  unfolding nth_of
  is_nth = (exactly_one s dealer wind n).1

  -- and the only one
  pub one_nth : (b : NthReading) → IsNth s dealer wind n b → b ≡ nth_of s dealer wind n
  unfolding nth_of
  one_nth = (exactly_one s dealer wind n).2
