-- The theorems of the log (01, Log; "Before the batch is burned": "a walk saying "end" with bytes left" falls by them).
use Rattle.std.specs.Prelude.{◌≡◌, ◌⊎◌, ◌↔◌, List, ◌∷◌, ℕ, ◌+◌, ◌≤◌, ◌<◌, length, take, drop}
use Rattle.std.proofs.Common.{arith}
use Rattle.log_entry.specs.Next.{LogEntry, entry}
use Rattle.log_entry.specs.Log.{next_of, part_at, refusal_at, entries_of, laid, stop_of}
use Rattle.log_entry.proofs.laws.Next as next
use Rattle.log_entry.proofs.laws.Walk as laws

-- "From an offset at or past the log's end it says "end", with an empty part", and from no other
pub end_only_at_end : (log : List ℕ) (at : ℕ) → ((length (part_at log at) ≡ 0) × (refusal_at log at ≡ 0)) ↔ (length log ≤ at)
end_only_at_end log at = laws.end_exactly log at

-- "that very part of the log": where it is not empty it lies inside the log
pub part_inside : (log : List ℕ) (at : ℕ) → 0 < length (part_at log at) → at + length (part_at log at) ≤ length log
part_inside log at h = omega (arith, h, next.part_inside log at)

-- the walk's entries are those that "Next entry hands back", one after the other
pub parts_follow : (log : List ℕ) (at : ℕ) (x : LogEntry) → next_of log at ≡ entry x
    → entries_of (drop at log) ≡ x ∷ entries_of (drop (at + length x.part) log)
parts_follow log at x e = laws.entry_turn log at x e

-- "that very part of the log": the parts of the walk laid end to end are the walked prefix of the log
pub parts_end_to_end : (log : List ℕ) → laid (entries_of log) ≡ take (stop_of log) log
parts_end_to_end log = laws.laid_prefix log

-- the walk comes to the log's end, or "the walk ends" at 14, inside the log, after at most as many entries as the log has bytes
pub walk_ends : (log : List ℕ)
    → ((length log ≡ stop_of log) ⊎ (refusal_at log (stop_of log) ≡ 14)) × (stop_of log ≤ length log) × (length (entries_of log) ≤ length log)
walk_ends log = (laws.ends_at log, laws.stop_within log, laws.parts_few log)

-- a log that meets no "Refusal 14" is walked whole
pub whole_unless_14 : (log : List ℕ) → (refusal_at log (stop_of log) ≡ 14 → ⊥) → laid (entries_of log) ≡ log
whole_unless_14 log h = laws.laid_all log h
