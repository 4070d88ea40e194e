-- A log booked in a game (01, Log): one of its entries booked, and the text that program `tally` prints.
use Rattle.std.specs.Prelude.{◌≡◌, ◌||◌, cond, List, [], ◌∷◌, ◌++◌, ℕ, ◌+◌, ltb, eqb, length, take, drop, Option, None, Some, Result, Ok, Err}
use Rattle.std.specs.Result.{result_unwrap_or}
use Rattle.refusals.specs.declared.Refusal.{Refusal}
use Rattle.refusals.specs.Refusal.{number, refusal_in}
use Rattle.position.specs.declared.Position.{Position}
use Rattle.game.specs.declared.Game.{Game}
use Rattle.game.specs.Game.{fresh_game, game_refusal, game_after}
use Rattle.log_entry.specs.Entry.{letter_of}
use Rattle.log_entry.specs.Next.{LogEntry, Next, end, entry, bad}
use Rattle.log_entry.specs.Log.{next_of, entries_of}
use Rattle.text.specs.Text.{line_of}
use Rattle.log_walk.specs.declared.Step.{Step as StepInCode}
use Rattle.log_walk.specs.declared.Walk.{Walk}
use Rattle.log_walk.specs.declared.Printed.{Printed}

-- ---- an entry booked

-- its refusal, its letter, its length, header included, and the game after it; without an entry the letter and the length are 0
pub record Step : Type 0 where
  pub refusal : ℕ
  pub letter : ℕ
  pub len : ℕ
  pub game : Game

-- no entry: 0 at "end", or 14, and the game as it was
abbrev pub no_entry : ℕ → Game → Step
no_entry refusal g = record { refusal = refusal; letter = 0; len = 0; game = g }

-- what Next entry gives, booked
abbrev pub step_by : Game → Next → Step
step_by g end = no_entry 0 g
step_by g (entry x) =
    let e = x.entry in
    record { refusal = game_refusal g e; letter = letter_of e; len = length x.part; game = game_after g e }
step_by g bad = no_entry 14 g

-- the entry at an offset, booked
unfoldable pub step_of : Game → List ℕ → ℕ → Step
step_of g log at = step_by g (next_of log at)

-- what the code gives for game g says: none at the log's end, an entry, or 14
abbrev pub told : Game → Result (Option StepInCode) Refusal → Step
told g (Ok None) = no_entry 0 g
told g (Ok (Some t)) = record { refusal = refusal_in t.booked; letter = t.letter; len = t.len; game = result_unwrap_or t.booked g }
told g (Err r) = no_entry (number r) g

-- the entry that bytes start with, booked as a part by itself: its refusal and the game after it; "Refusal 14" and the game as it was where they start with
-- none
abbrev pub BooksEntry : Game → List ℕ → ℕ → Game → Type 0
BooksEntry g s refusal h =
    let t = step_of g s 0 in
    (refusal ≡ cond (eqb t.len 0) 14 t.refusal) × (h ≡ t.game)

-- ---- the text

-- "entry from 1, letter R W D C, refusal (0 accepted), scores of seats 0 to 3, sticks": the line of entry n, of the position after it
unfoldable pub entry_line : ℕ → ℕ → ℕ → Position → List ℕ
entry_line n letter refusal p = line_of n letter refusal p.scores p.sticks

-- "books every entry, refused or not, printing" a line for each: the text of entries from number n on
unfoldable pub text_from : ℕ → Game → List LogEntry → List ℕ
text_from n g [] = []
text_from n g (x ∷ rest) =
    let e = x.entry in
    entry_line n (letter_of e) (game_refusal g e) (game_after g e).now ++ text_from (n + 1) (game_after g e) rest

-- what `tally` prints of a log: "entry from 1"; "Bytes past 65,536 aren't read. At 14 it stops, with no line for it."
unfoldable pub printed_text : List ℕ → List ℕ
printed_text log = text_from 1 fresh_game (entries_of (take 65536 log))

-- ---- as many whole lines as fit in a buffer

-- a walk before the first entry
abbrev pub started : Walk
started = record { game = fresh_game; entry = 1; at = 0 }

-- the text that is left from where a walk stands
abbrev pub text_left : Walk → List ℕ → List ℕ
text_left w log = text_from w.entry w.game (entries_of (drop w.at log))

-- the lines of entries, one after the other while they fit in `room` bytes, of which `written` are taken, and while the next number fits in 32 bits
unfoldable pub filled : ℕ → ℕ → Walk → List LogEntry → Printed
filled room written w [] = record { written = written; walk = w }
filled room written w (x ∷ rest) =
    let e = x.entry in
    let g = game_after w.game e in
    let n = written + length (entry_line w.entry (letter_of e) (game_refusal w.game e) g.now) in
    cond (ltb room n || eqb w.entry 4294967295) (record { written = written; walk = w })
    (filled room n (record { game = g; entry = w.entry + 1; at = w.at + length x.part }) rest)

-- as many whole lines of a log as fit in `room` bytes, from where a walk stands: how many bytes they are, and where it then stands
unfoldable pub lines_of : ℕ → Walk → List ℕ → Printed
lines_of room w log = filled room 0 w (entries_of (drop w.at log))
