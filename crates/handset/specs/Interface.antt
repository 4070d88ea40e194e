-- What the exported calls give where the proved one answers by an enum or by a part (01, "The form each place takes": "a definition gives this paper's
-- number and values for each of its cases").
use Rattle.std.specs.Prelude.{◌≡◌, true, false, List, ℕ, ◌/◌, ◌%◌, length, get_or}
use Rattle.position.specs.declared.Position.{Position}
use Rattle.text.specs.Text.{line_of, length_in, buffer_with}
use Rattle.log_entry.specs.Entry.{letter_of}
use Rattle.log_entry.specs.Next.{Next, end, entry, bad}
use Rattle.log_entry.specs.Log.{next_of}
use Rattle.handset.specs.declared.NextEntry.{NextEntry}

-- Next entry: the kind, argument and letter of an entry, and the length of its part; or "end", or 14
abbrev pub next_entry_by : Next → NextEntry
next_entry_by end = record { refusal = 0; end = true; kind = 0; argument = 0; letter = 0; length = 0 }
next_entry_by (entry x) =
    let header = get_or x.part 0 0 in
    record { refusal = 0; end = false; kind = header / 16; argument = header % 16; letter = letter_of x.entry; length = length x.part }
next_entry_by bad = record { refusal = 14; end = false; kind = 0; argument = 0; letter = 0; length = 0 }

-- Next entry at an offset
unfoldable pub next_entry_of : List ℕ → ℕ → NextEntry
next_entry_of log at = next_entry_by (next_of log at)

-- a line of `tally` at the start of a buffer: how many bytes come back, and what the buffer then holds
abbrev pub Lined : Position → ℕ → ℕ → ℕ → List ℕ → ℕ → List ℕ → Type 0
Lined p number letter refusal buf n out =
    let line = line_of number letter refusal p.scores p.sticks in
    (n ≡ length_in buf line) × (out ≡ buffer_with buf line)
