-- The theorems of what is said (SPEECH, What is claimed).
use Rattle.std.specs.Prelude.{◌≡◌, true, ℕ, ◌≤◌, length}
use mathlib.Core.List.{List, Memᴰ as Member}
use Rattle.std.proofs.Common.{arith}
use Rattle.hand.specs.Hand.{is_ron}
use Rattle.hand_record.specs.Record.{hand_of, read_of}
use Rattle.points.specs.Points.{plain, ordinary}
use Rattle.score.specs.Score.{score_of}
use Rattle.speech_told.specs.Sheet.{has_clip}
use Rattle.speech_told.specs.Messages.{score_said, fu_message, refusal_message}
use Rattle.speech_told.specs.Phrases.{limit_clips}
use Rattle.speech_told.specs.Told.{Agree, named_amount}
use Rattle.speech_told.proofs.laws.Named as named
use Rattle.speech_told.proofs.laws.Told as laws
use Rattle.speech_told.proofs.laws.Short as short

-- "from the clips of a Score message the winner, the way of winning, the yaku, h, fu and each seat's payment can be had back: in one language and with one
-- dealer two accepted scores with the same message are the same in all of these". It holds of any two records, accepted or not
pub score_told_apart : (language dealer wind other : ℕ) (s t : List ℕ) → score_said language s dealer wind ≡ score_said language t dealer other
    → let f = (hand_of (read_of s)).fields in let g = (hand_of (read_of t)).fields in
    Agree f.winner g.winner (is_ron f) (is_ron g) (score_of s dealer wind) (score_of t dealer other)
score_told_apart = laws.same_said

-- "where a limit is paid, its name (71 to 74)": the name stands for the amount that document 01 pays, and none is said where the plain one is paid
pub named_as_paid : (h fu : ℕ) → named_amount (limit_clips h fu) (plain h fu) ≡ ordinary h fu
named_as_paid h fu = named.named_as_paid h fu

module _ (language : ℕ) (s : List ℕ) (dealer wind : ℕ) where
  -- "no message is longer than a number of clips that the header names": 155 is enough for each
  pub score_short : length (score_said language s dealer wind) ≤ 147
  score_short = short.score_short language s dealer wind

  pub fu_short : length (fu_message language (score_of s dealer wind)) ≤ 155
  fu_short = short.fu_short language s dealer wind

  -- "every clip of a message is one that the sheet has for that language"
  pub score_on_sheet : (c : ℕ) → Member c (score_said language s dealer wind) → has_clip language c ≡ true
  score_on_sheet = (short.score_has language s dealer wind).has

  pub fu_on_sheet : (c : ℕ) → Member c (fu_message language (score_of s dealer wind)) → has_clip language c ≡ true
  fu_on_sheet = (short.fu_has language s dealer wind).has

-- the two of a refusal that there is
pub refusal_short : (n : ℕ) → length (refusal_message n) ≤ 1
refusal_short n = omega arith

pub refusal_on_sheet : (language n : ℕ) → n ≤ 22 → (c : ℕ) → Member c (refusal_message n) → has_clip language c ≡ true
refusal_on_sheet language n h = (short.refusal_has language n h).has
