-- What Score answers, for every record, dealer and round wind (01, Score). Nothing here says how it is found; `Score` has the one such answer.
use Rattle.std.specs.Prelude.{List, ◌⊎◌, ◌≡◌, ℕ, ◌<◌, ◌≤◌}
use Rattle.hand.specs.declared.Fields.{Fields}
use Rattle.hand_record.specs.Record.{Sound, Refused}
use Rattle.hand_record.specs.Record.{hand_of, read_of}
use Rattle.score.specs.declared.Scored.{Scored}
use Rattle.score.specs.Named.{refused_with, Named}

-- "Score takes a record, dealer and round wind (0 East, 1 South)": a is what it answers
pub data IsScore (s : List ℕ) (dealer wind : ℕ) : Scored → Type 0 where
  -- "8, dealer over 3 or wind over 1"
  eight : (3 < dealer) ⊎ (1 < wind) → IsScore s dealer wind (refused_with 8)
  -- "1 to 5": "A record that fails to read ends scoring there"
  unreadable : dealer ≤ 3 → wind ≤ 1 → (n : ℕ) → (read_of s).answer ≡ Refused n → IsScore s dealer wind (refused_with n)
  -- a sound record: what the papers name for its hand
  read : dealer ≤ 3 → wind ≤ 1 → (f : Fields) → (read_of s).answer ≡ Sound f → {a : Scored} → Named (hand_of (read_of s)) dealer wind a → IsScore s dealer wind a
