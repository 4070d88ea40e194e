-- What Next entry gives, for every log and offset (01, Log). Nothing here says how it is found; `Log` has the one such answer.
use Rattle.std.specs.Prelude.{◌≡◌, List, ℕ, ◌≤◌, ◌<◌, length, take, drop}
use Rattle.game.specs.Game.{Entry}
use Rattle.log_entry.specs.Entry.{IsEntry}

-- an entry of a log: its bytes, and what they book
pub record LogEntry : Type 0 where
  pub part : List ℕ
  pub entry : Entry

-- bytes start with it
abbrev pub Starts : List ℕ → LogEntry → Type 0
Starts s x = IsEntry x.part x.entry × (take (length x.part) s ≡ x.part)

-- "end", an entry, or "Refusal 14"
pub data Next : Type 0 where
  end : Next
  entry : LogEntry → Next
  bad : Next

-- what Next entry gives at an offset
pub data IsNext (log : List ℕ) (at : ℕ) : Next → Type 0 where
  -- "From an offset at or past the log's end it says "end""
  at_end : length log ≤ at → IsNext log at end
  -- it "hands back that very part of the log, from its header on"
  starts : (x : LogEntry) → Starts (drop at log) x → IsNext log at (entry x)
  -- "Refusal 14": bytes are left, and they start with no entry
  none : at < length log → ((x : LogEntry) → Starts (drop at log) x → ⊥) → IsNext log at bad
