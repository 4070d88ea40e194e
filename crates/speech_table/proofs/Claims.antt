-- The theorems of what is said of a game's scores, of waits and of readiness (SPEECH, What is claimed): how long it is, and that the sheet has it.
use Rattle.std.specs.Prelude.{◌≡◌, true, ℕ, ◌≤◌, ◌<◌, pos, nat_abs, length, get_or}
use mathlib.Core.List.{Memᴰ as Member}
use Rattle.position.specs.declared.Position.{Position}
use Rattle.waits.specs.declared.Waits.{Waits}
use Rattle.speech_told.specs.Sheet.{has_clip}
use Rattle.speech_table.specs.Messages.{scores_message, waits_message, ready_message}
use Rattle.speech_table.proofs.laws.Short as laws

-- of any game whose numbers have 32 bits
module _ (l : ℕ) (g : Position) (scores : (k : ℕ) → nat_abs (get_or g.scores k (pos 0)) < 4294967296) (sticks : g.sticks < 4294967296) (counter : g.counter < 4294967296) where
  -- "no message is longer than a number of clips that the header names": 155 is enough for each
  pub scores_short : length (scores_message l g) ≤ 92
  scores_short = laws.scores_short l g scores sticks counter

  -- "every clip of a message is one that the sheet has for that language"
  pub scores_on_sheet : (c : ℕ) → Member c (scores_message l g) → has_clip l c ≡ true
  scores_on_sheet = (laws.scores_has l g scores sticks counter).has

-- the two of waits
pub waits_short : (w : Waits) → length (waits_message w) ≤ 36
waits_short = laws.waits_short

pub waits_on_sheet : (l : ℕ) (w : Waits) (c : ℕ) → Member c (waits_message w) → has_clip l c ≡ true
waits_on_sheet l w = (laws.waits_has w l).has

-- the two of readiness
pub ready_short : (l swaps : ℕ) → swaps < 4294967296 → length (ready_message l swaps) ≤ 14
ready_short = laws.ready_short

pub ready_on_sheet : (l swaps : ℕ) → swaps < 4294967296 → (c : ℕ) → Member c (ready_message l swaps) → has_clip l c ≡ true
ready_on_sheet l swaps h = (laws.ready_has l swaps h).has
