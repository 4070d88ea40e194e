-- The theorems of numbers as clips (SPEECH, What is claimed), of the languages 1 to 4 and the numbers of 32 bits.
use Rattle.std.specs.Prelude.{◌≡◌, true, ℕ, ◌≤◌, ◌<◌, length}
use mathlib.Core.List.{Memᴰ as Member}
use Rattle.std.proofs.Common.{arith}
use Rattle.speech_numerals.specs.Numerals.{numeral}
use Rattle.speech_numerals.specs.Heard.{heard, on_sheet}
use Rattle.speech_numerals.proofs.laws.Heard as heard-laws
use Rattle.speech_numerals.proofs.laws.Short as short
use Rattle.speech_numerals.proofs.laws.Sheet as sheet

module _ (language : ℕ) (known : (1 ≤ language) × (language ≤ 4)) (n : ℕ) (fits : n < 4294967296) where
  -- "In every language, what is heard of a number is that number"
  pub heard_back : heard (numeral language n) ≡ n
  heard_back = heard-laws.heard_back language n (omega arith)

  -- at most 13 clips
  pub numeral_short : length (numeral language n) ≤ 13
  numeral_short = short.numeral_short language n fits

  -- "every clip of a message is one that the sheet has for that language"
  pub numeral_on_sheet : (c : ℕ) → Member c (numeral language n) → on_sheet language c ≡ true
  numeral_on_sheet = (sheet.on_numeral language n (omega arith)).on

-- "So no two numbers sound alike", not even in two languages
pub no_two_alike : (l k : ℕ) → (1 ≤ l) × (l ≤ 4) → (1 ≤ k) × (k ≤ 4) → (m n : ℕ) → m < 4294967296 → n < 4294967296 → numeral l m ≡ numeral k n → m ≡ n
no_two_alike l k a b m n f g e = heard-laws.alike l k m n (omega arith) (omega arith) e
