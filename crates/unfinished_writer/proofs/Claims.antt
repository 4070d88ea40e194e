-- The theorems of the unfinished hand's writers (02, S-1; 00, demand 2: "A sound hand record read and written back gives the
-- same bytes, and an accepted hand written and read gives the same hand", here of an unfinished hand).
use Rattle.std.specs.Prelude.{ℕ, ◌≤◌, ◌≡◌, cond, ◌↔◌, List, ◌++◌, length, take, drop}
use Rattle.bits.specs.Bits.{EachBelow}
use Rattle.hand.specs.declared.Held.{Held}
use Rattle.hand_record.specs.Record.{refusal_in, hand_of}
use Rattle.hand_record.specs.Record as hand-record
use Rattle.reading.specs.declared.Reading.{Reading}
use Rattle.score.specs.Named.{IsReadingOf}
use Rattle.unfinished.specs.Unfinished.{held_of, refusal_of, read_of, IsSound}
use Rattle.unfinished.proofs.Claims.{sound}
use Rattle.waits.specs.Waits.{IsWait}
use Rattle.unfinished_writer.specs.Write.{unfinished_bytes, unwritable, written_of, buffer_of, IsHeld, held_in_record, written_from, buffer_from}
use Rattle.unfinished_writer.specs.Write.{InOrder, is_unfit}
use Rattle.unfinished_writer.proofs.laws.Claims as laws
use Rattle.unfinished_writer.proofs.laws.Order as order

-- ---- what is refused before 13

-- the writer of tiles held: "2 .., 3, 4 .., then 13" (01, Write)
pub write_in_order : (x : Held) (buf : List ℕ) → InOrder (unwritable x) x buf (written_of x buf) (buffer_of x buf)
write_in_order = order.write_in_order

-- the writer from a record: Read's 1 to 5, then 13
pub record_in_order : (s buf : List ℕ) → InOrder (refusal_in (hand-record.read_of s).answer) (held_in_record s) buf (written_from s buf) (buffer_from s buf)
record_in_order = order.record_in_order

-- "2 (also m over 4, a field too large for its bits, or an unused place not zero), 3, 4 .. as above": 2 for tiles that no bytes can hold, and else what
-- the reader refuses their bytes with
pub refused_as_read : (x : Held) → IsHeld x → unwritable x ≡ cond (is_unfit x) 2 (refusal_of (unfinished_bytes x))
refused_as_read = order.refused_as_read

-- ---- written and read

-- a sound unfinished hand read and written back gives the same bytes, in a buffer that it fits, whose bytes past them stay
pub read_write : (s buf : List ℕ) → EachBelow 256 s → IsSound s → length s ≤ length buf
    → (written_of (read_of s).held buf ≡ record { refusal = 0; len = length s }) × (buffer_of (read_of s).held buf ≡ s ++ drop (length s) buf)
read_write s buf b y l = (laws.read_write_answer s buf b ((sound s).0 y) l, laws.read_write_buffer s buf b ((sound s).0 y) l)

-- accepted tiles held, written and read, are the same tiles held
pub write_read : (x : Held) (buf : List ℕ) → IsHeld x → (written_of x buf).refusal ≡ 0
    → read_of (take (written_of x buf).len (buffer_of x buf)) ≡ record { refusal = 0; held = x }
write_read = laws.write_read

-- the tiles held of a sound record meet none of the writer's 2 to 4
pub record_accepted : (s : List ℕ) → hand-record.IsSound s → unwritable (held_in_record s) ≡ 0
record_accepted = laws.record_accepted

-- so that a sound record is written as its tiles held are
pub record_written : (s buf : List ℕ) → hand-record.IsSound s
    → (written_from s buf ≡ written_of (held_in_record s) buf) × (buffer_from s buf ≡ buffer_of (held_in_record s) buf)
record_written s buf y = (laws.same_answer s y buf, laws.same_buffer s y buf)

-- what is written from a record, read, is the record's tiles held
pub record_read : (s buf : List ℕ) → (written_from s buf).refusal ≡ 0
    → read_of (take (written_from s buf).len (buffer_from s buf)) ≡ record { refusal = 0; held = held_in_record s }
record_read = laws.record_read

-- "an unfinished hand's waits from these same records" (00): the winning tile is among them exactly when the record's tiles have a reading
pub winning_waits : (s buf : List ℕ) → (written_from s buf).refusal ≡ 0 →
    let h = hand_of (hand-record.read_of s) in
    IsWait (held_of (take (written_from s buf).len (buffer_from s buf))) h.fields.winning ↔ ((r : Reading) × IsReadingOf h r)
winning_waits = laws.winning_waits
