-- How long the record is that bytes start with, by its m (01, Tiles and the hand record; Log: "its record follows"; 02, S-6: "as long as its m says").
use Rattle.std.specs.Prelude.{Bool, ◌||◌, cond, List, ℕ, ltb, length}
use Rattle.hand_record.specs.Record.{length_of, count_in}

-- of the record that bytes start with, "m over 4, or bytes missing": under the four that hold m, or under m's length
abbrev pub is_broken : List ℕ → Bool
is_broken s = ltb (length s) 4 || ltb 4 (count_in s) || ltb (length s) (length_of (count_in s))

-- how many bytes the record has that bytes start with; 0 where it is broken
unfoldable pub record_length : List ℕ → ℕ
record_length s = cond (is_broken s) 0 (length_of (count_in s))
