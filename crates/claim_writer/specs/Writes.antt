-- The writer of claims (02, S-13): which bytes name a reading and a gain, and what it answers and leaves. Nothing here says how they are found.
use Rattle.std.specs.Prelude.{List, ◌++◌, ℕ, ◌≤◌, ◌<◌, length, drop}
use Rattle.bits.specs.Bits.{EachBelow}
use Rattle.hand_record.specs.declared.Written.{Written}
use Rattle.reading.specs.declared.Reading.{Reading}
use Rattle.score_readings.specs.declared.NthReading.{NthReading}
use Rattle.claim.specs.Claim.{Names}
use Rattle.claim_writer.specs.declared.Claim.{Claim}

-- the reading that is to be named
abbrev pub reading_of : Claim → Reading
reading_of c = record { shape = c.shape; pair = c.pair; groups = c.groups; place = c.place }

-- what is to be written of the n-th reading (`hb_reading`) of a hand with m melds: its shape, pair, groups and place with its gain
abbrev pub claim_of : ℕ → NthReading → Claim
claim_of m a = record { gain = a.gain; shape = a.shape; pair = a.pair; groups = a.groups; place = a.place; m = m }

-- the bytes s name that reading and gain for a hand with m melds; no hand has "m over 4" (01, Tiles and the hand record)
pub record IsClaimOf (c : Claim) (s : List ℕ) : Type 0 where
  pub few : c.m ≤ 4
  pub bytes : EachBelow 256 s
  pub names : Names c.m s (reading_of c) c.gain.0

-- a refusal: "It returns the length, 0 if refused"
abbrev pub refused_with : ℕ → Written
refused_with n = record { refusal = n; len = 0 }

-- what it answers, and what the buffer then holds: as Write does (01, Tiles and the hand record)
pub data Writes (c : Claim) (buf : List ℕ) : Written → List ℕ → Type 0 where
  -- 22: no bytes name them
  unnamed : ((s : List ℕ) → IsClaimOf c s → ⊥) → Writes c buf (refused_with 22) buf
  -- "then 13: buffer shorter than" the claim; "a refused write changes no byte of the buffer"
  short : (s : List ℕ) → IsClaimOf c s → length buf < length s → Writes c buf (refused_with 13) buf
  -- "It returns the length"; "bytes past" the claim "stay"
  written : (s : List ℕ) → IsClaimOf c s → length s ≤ length buf → Writes c buf (record { refusal = 0; len = length s }) (s ++ drop (length s) buf)
