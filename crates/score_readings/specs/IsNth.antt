-- What is answered for a record, dealer, round wind and the number of a reading. Nothing here says how it is found; `NthOf` has the one such answer.
use Rattle.std.specs.Prelude.{Bool, true, false, List, ◌⊎◌, ◌↔◌, ◌≡◌, ℕ, ◌<◌, ◌≤◌, pos, length, replicate}
use Rattle.hand.specs.declared.Fields.{Fields}
use Rattle.hand_record.specs.Record.{Sound, Refused}
use Rattle.hand_record.specs.Record.{hand_of, read_of}
use Rattle.points_fu.specs.Fu.{fu, base_alone}
use Rattle.points_value.specs.Han.{han}
use Rattle.score.specs.Readings.{readings_of}
use Rattle.score.specs.Named.{IsReported}
use Rattle.score_readings.specs.declared.NthReading.{NthReading}
use Rattle.score_readings.specs.Shown.{points, nth_in, shown_as}

-- "a refused call returns its number with all else zero" (01)
abbrev pub refused_with : ℕ → NthReading
refused_with n = record {
  count = 0;
  basic = points 0;
  gain = points 0;
  changes = replicate 4 (pos 0);
  h = han 0;
  dora = han 0;
  han = replicate 37 (han 0);
  refusal = n;
  shape = 0;
  pair = 0;
  groups = replicate 4 0;
  place = 0;
  reported = false;
  fu = fu 0;
  items = base_alone 0;
  yaku = replicate 37 false;
}

-- the n-th reading of the record's tiles, from 1, in "document 01's order": a is what is answered
pub data IsNth (s : List ℕ) (dealer wind n : ℕ) : NthReading → Type 0 where
  -- Score's "8, dealer over 3 or wind over 1"
  eight : (3 < dealer) ⊎ (1 < wind) → IsNth s dealer wind n (refused_with 8)
  -- Read's "1 to 5"
  unreadable : dealer ≤ 3 → wind ≤ 1 → (k : ℕ) → (read_of s).answer ≡ Refused k → IsNth s dealer wind n (refused_with k)
  -- 8 again, where n is 0 or over the number of readings: so too where the tiles have no reading
  no_such : dealer ≤ 3 → wind ≤ 1 → (f : Fields) → (read_of s).answer ≡ Sound f → (n ≡ 0) ⊎ (length (readings_of (hand_of (read_of s))) < n)
      → IsNth s dealer wind n (refused_with 8)
  -- that reading, and whether it is the one that is reported
  shown : dealer ≤ 3 → wind ≤ 1 → (f : Fields) → (read_of s).answer ≡ Sound f → 1 ≤ n → n ≤ length (readings_of (hand_of (read_of s)))
      → (b : Bool) → (b ≡ true) ↔ IsReported (hand_of (read_of s)) dealer wind (nth_in (readings_of (hand_of (read_of s))) n)
      → IsNth s dealer wind n (shown_as (hand_of (read_of s)) dealer wind (nth_in (readings_of (hand_of (read_of s))) n) b)
