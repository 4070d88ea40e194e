-- The one answer for a record, dealer, round wind and number (`ExactlyOne`: there is one, and every answer is that one).
use Rattle.std.specs.Prelude.{List, ℕ}
use Rattle.score_readings.specs.declared.NthReading.{NthReading}
use Rattle.score_readings.specs.search.Found.{found_of}

-- that one answer
unfoldable pub nth_of : List ℕ → ℕ → ℕ → ℕ → NthReading
nth_of s dealer wind n = found_of s dealer wind n
