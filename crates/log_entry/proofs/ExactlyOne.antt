-- Next entry (01, Log): for every log and offset there is exactly one thing that it gives.
use Rattle.std.specs.Prelude.{List, ℕ}
use Rattle.tiles.specs.One.{ExactlyOne}
use Rattle.log_entry.specs.Next.{IsNext}
use Rattle.log_entry.specs.Log.{next_of}
use Rattle.log_entry.proofs.laws.Exact as laws
use Rattle.log_entry.proofs.laws.One as one

-- there is one, and every other is that one: so at most one prefix of bytes is an entry
pub exactly_one : (log : List ℕ) (at : ℕ) → ExactlyOne (IsNext log at)
exactly_one = laws.exactly_one

-- `next_of` is that one
pub next_is_next : (log : List ℕ) (at : ℕ) → IsNext log at (next_of log at)
next_is_next = one.is_next
