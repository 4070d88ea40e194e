-- How many readings a record's tiles have.
use Rattle.std.specs.Prelude.{◌||◌, cond, List, ℕ, ltb, length}
use Rattle.hand_record.specs.Record.{Answer, Sound, Refused}
use Rattle.hand_record.specs.Record.{hand_of, read_of}
use Rattle.score.specs.Readings.{readings_of}
use Rattle.score_readings.specs.declared.ReadingCount.{ReadingCount}

-- Read's "1 to 5"; or all readings of the hand, none where it has none
unfoldable pub count_by : Answer → List ℕ → ReadingCount
count_by (Refused n) s = record { count = 0; refusal = n }
count_by (Sound f) s = record { count = length (readings_of (hand_of (read_of s))); refusal = 0 }

-- "8, dealer over 3 or wind over 1" before them
unfoldable pub count_of : List ℕ → ℕ → ℕ → ReadingCount
count_of s dealer wind = cond (ltb 3 dealer || ltb 1 wind) (record { count = 0; refusal = 8 }) (count_by (read_of s).answer s)
