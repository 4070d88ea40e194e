-- The theorems of the hand record (01, Tiles and the hand record; demand 2: "A sound hand record read and written back gives the
-- same bytes, and an accepted hand written and read gives the same hand").
use Rattle.std.specs.Prelude.{ℕ, ◌+◌, ◌*◌, ◌-◌, ◌≤◌, ◌<◌, ◌≡◌, ◌↔◌, List, ◌++◌, length, take, drop}
use Rattle.bits.specs.Bits.{width_of, EachBelow}
use Rattle.hand.specs.declared.Hand.{Hand}
use Rattle.hand_record.specs.Record.{length_of, pad_of, widths, refusal_in, hand_of, sound_as, read_of, IsSound, IsHand, written_of, buffer_of}
use Rattle.hand_record.proofs.laws.Claims as laws

-- "zero bits to the byte. That is 103 − 10m bits": with under 8 zero bits the widths of a record's fields are its bytes
pub widths_fill : (m : ℕ) → m ≤ 4 → (width_of (widths m) ≡ 103 - 10 * m + pad_of m) × (103 - 10 * m + pad_of m ≡ 8 * length_of m) × (pad_of m < 8)
widths_fill = laws.filled

-- "A record that meets none of these is sound", and then "Read refuses" it for nothing; and the reverse
pub sound : (s : List ℕ) → IsSound s ↔ (refusal_in (read_of s).answer ≡ 0)
sound s = (laws.sound_read s, laws.read_sound s)

-- "A sound hand record read and written back gives the same bytes", in a buffer that it fits, whose "bytes past the record stay"
pub read_write : (s buf : List ℕ) → EachBelow 256 s → IsSound s → length s ≤ length buf
    → (written_of (hand_of (read_of s)) buf ≡ record { refusal = 0; len = length s }) × (buffer_of (hand_of (read_of s)) buf ≡ s ++ drop (length s) buf)
read_write s buf b y l = (laws.read_write_answer s buf b ((sound s).0 y) l, laws.read_write_buffer s buf b ((sound s).0 y) l)

-- "an accepted hand written and read gives the same hand"
pub write_read : (h : Hand) (buf : List ℕ) → IsHand h → (written_of h buf).refusal ≡ 0
    → read_of (take (written_of h buf).len (buffer_of h buf)) ≡ sound_as h
write_read h buf i e = laws.write_read h buf i.melds i.concealed i.bytes e
