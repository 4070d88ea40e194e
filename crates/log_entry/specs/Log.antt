-- Next entry (01, Log): the one thing that it gives for a log and an offset (`ExactlyOne`: there is one, and every other is that one); and the entries that
-- a walk finds, one after the other.
use Rattle.std.specs.Prelude.{List, [], ◌∷◌, ◌++◌, ℕ, zero, suc, length, drop}
use Rattle.log_entry.specs.Next.{LogEntry, Next, end, entry, bad}
use Rattle.log_entry.specs.search.Found.{found_at}

-- what Next entry gives: that one
unfoldable pub next_of : List ℕ → ℕ → Next
next_of log at = found_at log at

-- the part: "an empty part" at 14 and at the end
abbrev pub part_in : Next → List ℕ
part_in end = []
part_in (entry x) = x.part
part_in bad = []

-- the refusal, 0 at an entry and at the end
abbrev pub refusal_in : Next → ℕ
refusal_in end = 0
refusal_in (entry x) = 0
refusal_in bad = 14

-- the part that Next entry hands back at an offset
unfoldable pub part_at : List ℕ → ℕ → List ℕ
part_at log at = part_in (next_of log at)

-- its refusal there
unfoldable pub refusal_at : List ℕ → ℕ → ℕ
refusal_at log at = refusal_in (next_of log at)

-- ---- the walk

-- none at the end and at 14, else the entry and what `more` finds after it
abbrev pub entries_by : Next → (ℕ → List LogEntry) → List LogEntry
entries_by end more = []
entries_by (entry x) more = x ∷ more (length x.part)
entries_by bad more = []

-- at most `fuel` entries, one after the other, until there is none: "the walk ends"
unfoldable pub entries_few : ℕ → List ℕ → List LogEntry
entries_few zero s = []
entries_few (suc fuel) s = entries_by (next_of s 0) (λ n. entries_few fuel (drop n s))

-- all entries of bytes: at most as many as there are bytes (`walk_ends`), so that this fuel is enough (`parts_follow`)
unfoldable pub entries_of : List ℕ → List LogEntry
entries_of s = entries_few (length s) s

-- their parts laid end to end: a tool for the claims
abbrev pub laid : List LogEntry → List ℕ
laid [] = []
laid (x ∷ rest) = x.part ++ laid rest

-- the offset at which the walk over a log ends: after all its parts
abbrev pub stop_of : List ℕ → ℕ
stop_of log = length (laid (entries_of log))
