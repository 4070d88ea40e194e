-- Lengths on any target: each length and offset that a call gives out is at most one that it was given, so that where those fit in `size_t`, so do these.
use Rattle.std.specs.Prelude.{List, ℕ, ◌≤◌, length}
use Rattle.hand.specs.declared.Held.{Held}
use Rattle.hand.specs.declared.Hand.{Hand}
use Rattle.hand_record.specs.Record.{refusal_in, read_of, written_of}
use Rattle.claim_writer.specs.declared.Claim.{Claim}
use Rattle.claim_writer.specs.Write as claims
use Rattle.unfinished_writer.specs.Write.{unwritable, written_of as unfinished_written, held_in_record, written_from}
use Rattle.unfinished_writer.proofs.laws.Store.{within}
use Rattle.text.specs.Text.{length_in}
use Rattle.log_walk.specs.declared.Walk.{Walk}
use Rattle.log_walk.specs.Walk.{lines_of}
use Rattle.handset.specs.Interface.{next_entry_of}
use Rattle.handset.proofs.laws.Lengths as laws

-- Write: "It returns the length, 0 if refused", and the record fits
pub written_within : (h : Hand) (buf : List ℕ) → (written_of h buf).len ≤ length buf
written_within h buf = laws.written_within h buf

-- Write claim: so does a claim
pub claim_within : (c : Claim) (buf : List ℕ) → (claims.written_of c buf).len ≤ length buf
claim_within c buf = laws.claim_within c buf

-- Write unfinished: so does an unfinished hand, from its tiles held
pub unfinished_within : (x : Held) (buf : List ℕ) → (unfinished_written x buf).len ≤ length buf
unfinished_within x buf = within x buf (unwritable x)

-- Unfinished: and from a record
pub record_within : (s buf : List ℕ) → (written_from s buf).len ≤ length buf
record_within s buf = within (held_in_record s) buf (refusal_in (read_of s).answer)

-- Next entry: "that very part of the log"
pub entry_within : (log : List ℕ) (at : ℕ) → (next_entry_of log at).length ≤ length log
entry_within log at = laws.entry_within log at

-- a line of `tally` fits
pub line_within : (buf line : List ℕ) → length_in buf line ≤ length buf
line_within buf line = laws.line_within buf line

-- lines of a log: what is written fits, and the walk stands inside the log or where it stood
pub lines_within : (room : ℕ) (w : Walk) (log : List ℕ) (most : ℕ) → w.at ≤ most → length log ≤ most
    → let r = lines_of room w log in
    (r.written ≤ room) × (r.walk.at ≤ most)
lines_within room w log most h g = laws.lines_within room w log most h g
