-- The theorems of the writer of claims (02, S-13): what it writes names what was put in, no other bytes do, and it refuses with 22 exactly where none do.
use Rattle.std.specs.Prelude.{ℕ, ◌≤◌, ◌<◌, ◌≡◌, List, ◌++◌, ◌↔◌, length, take, drop}
use Rattle.bits.specs.Bits.{EachBelow}
use Rattle.hand_record.specs.Record.{hand_of, read_of, IsSound}
use Rattle.score.specs.Named.{IsReadingOf}
use Rattle.score_readings.specs.NthOf.{nth_of}
use Rattle.claim.specs.Verdict.{IsVerdict}
use Rattle.claim.specs.Judge.{judged_of, HasVerdict}
use Rattle.claim_writer.specs.declared.Claim.{Claim}
use Rattle.claim_writer.specs.Writes.{reading_of, claim_of, IsClaimOf}
use Rattle.claim_writer.specs.Write.{written_of, buffer_of}
use Rattle.claim_writer.proofs.laws.Claims as laws

module _ (c : Claim) (buf : List ℕ) where
  -- the bytes that it writes
  abbrev pub bytes : List ℕ
  bytes = take (written_of c buf).len (buffer_of c buf)

  -- they name the reading and the gain that were put in
  pub write_names : (written_of c buf).refusal ≡ 0 → IsClaimOf c bytes
  write_names = laws.write_names c buf

  -- so that for a sound record with m melds Judge gives the verdict on that reading and that gain
  pub write_judge : (written_of c buf).refusal ≡ 0 → (s : List ℕ) (dealer wind : ℕ) → dealer ≤ 3 → wind ≤ 1 → IsSound s
      → c.m ≡ (hand_of (read_of s)).held.m → (v : ℕ) → HasVerdict s bytes dealer wind v ↔ IsVerdict (hand_of (read_of s)) dealer wind (reading_of c) c.gain.0 v
  write_judge = laws.write_judge c buf

  -- and no other bytes name them: those that do are written
  pub only_bytes : (s : List ℕ) → IsClaimOf c s → length s ≤ length buf
      → (written_of c buf ≡ record { refusal = 0; len = length s }) × (buffer_of c buf ≡ s ++ drop (length s) buf)
  only_bytes = laws.only_bytes c buf

  -- 22 exactly where no bytes name them
  pub twenty_two_exactly : ((written_of c buf).refusal ≡ 22) ↔ ((s : List ℕ) → IsClaimOf c s → ⊥)
  twenty_two_exactly = laws.twenty_two_exactly c buf

  -- 13 exactly where some do, and are longer than the buffer
  pub thirteen_exactly : ((written_of c buf).refusal ≡ 13) ↔ ((s : List ℕ) × IsClaimOf c s × (length buf < length s))
  thirteen_exactly = laws.thirteen_exactly c buf

-- a claim that Judge does not refuse is that of a reading and a gain: taken apart and written again, it is the same bytes
pub judge_write : (s claim : List ℕ) (dealer wind : ℕ) → EachBelow 256 claim → (judged_of s claim dealer wind).refusal ≡ 0
    → (c : Claim) × (c.m ≡ (hand_of (read_of s)).held.m) × IsClaimOf c claim
    × ((buf : List ℕ) → length claim ≤ length buf → buffer_of c buf ≡ claim ++ drop (length claim) buf)
judge_write = laws.judge_write

-- a reading of a sound record's tiles can be claimed with any gain of 17 bits
pub each_reading : (s : List ℕ) → IsSound s → (c : Claim) → c.m ≡ (hand_of (read_of s)).held.m → IsReadingOf (hand_of (read_of s)) (reading_of c)
    → c.gain.0 < 131072 → (claim : List ℕ) × IsClaimOf c claim
each_reading = laws.each_reading

-- and so can the n-th reading as it is shown, with the gain that is shown
pub shown_reading : (s : List ℕ) (dealer wind n : ℕ) → (nth_of s dealer wind n).refusal ≡ 0
    → (claim : List ℕ) × IsClaimOf (claim_of (hand_of (read_of s)).held.m (nth_of s dealer wind n)) claim
shown_reading = laws.shown_reading
