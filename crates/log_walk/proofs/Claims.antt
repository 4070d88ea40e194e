-- The theorems of a booked log.
use Rattle.std.specs.Prelude.{◌≡◌, List, [], ◌∷◌, ◌++◌, map, length, take, ℕ, ◌≤◌}
use Rattle.std.proofs.Common.{arith}
use Rattle.game.specs.Game.{fresh_game, game_from}
use Rattle.game.proofs.Claims.{Demand3, demand_3, refusals_from, runs_exists}
use Rattle.log_entry.specs.Log.{entries_of}
use Rattle.text.specs.Words.{bytes_of}
use Rattle.log_walk.specs.declared.Walk.{Walk}
use Rattle.log_walk.specs.Walk.{printed_text, started, text_left, lines_of}
use Rattle.log_walk.proofs.laws.Through as through
use Rattle.log_walk.proofs.laws.Examples as examples

-- demand 3 holds of every log: of its entries, their refusals, and the game that they leave of a fresh one
pub log_demand_3 : (log : List ℕ) → let es = map (λ x. x.entry) (entries_of log) in Demand3 es (refusals_from fresh_game es) (game_from fresh_game es)
log_demand_3 log = let es = map (λ x. x.entry) (entries_of log) in demand_3 es (refusals_from fresh_game es) (game_from fresh_game es) (runs_exists es fresh_game)

-- what `lines` writes into a buffer of `room` bytes, and then the text from where it leaves the walk, is the text from where the walk stood; and it fits
pub lines_by_lines : (room : ℕ) (w : Walk) (log : List ℕ) → let r = lines_of room w log in
    (take r.written (text_left w log) ++ text_left r.walk log ≡ text_left w log) × (r.written ≤ room)
lines_by_lines room w log = (through.by_lines room w log, (through.moved room w log).fits (omega arith))

-- from the start it is what `tally` prints: "a log of up to 65,536 bytes"
pub text_from_start : (log : List ℕ) → length log ≤ 65536 → text_left started log ≡ printed_text log
text_from_start log h = through.text_whole log h

-- "Hexadecimal 01 24 prints exactly"
pub example : printed_text (1 ∷ 36 ∷ []) ≡ bytes_of "1 R 0 30000 29000 30000 30000 1" ++ (10 ∷ bytes_of "2 D 0 29000 32000 29000 29000 1") ++ (10 ∷ [])
example = examples.example
