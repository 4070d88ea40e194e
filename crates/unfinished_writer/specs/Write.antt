-- An unfinished hand written (02, S-1), as Write has it (01, Tiles and the hand record): from the tiles held, and from a record without its winning tile.
use Rattle.std.specs.Prelude.{◌≡◌, Bool, ◌||◌, cond, ◌↔◌, List, ◌∷◌, ◌++◌, ℕ, ◌≤◌, ◌<◌, ltb, length, get_or, drop}
use Rattle.tiles.specs.Below.{any_below}
use Rattle.bits.specs.Bits.{EachBelow, pack_bytes}
use Rattle.hand.specs.declared.Held.{Held}
use Rattle.hand.specs.Held.{others, unused_not_zero}
use Rattle.hand_record.specs.declared.Written.{Written}
use Rattle.hand_record.specs.Record.{held_values, refusal_in, hand_of, read_of}
use Rattle.unfinished.specs.Unfinished.{length_of, widths, held_refusal}

-- ---- the bytes

-- the values of an unfinished hand: "meld count 3 bits, melds, 13 − 3m tiles, zero bits to the byte"
unfoldable pub values_of : Held → List ℕ
values_of x = x.m ∷ held_values x

-- each value at its width, as bytes
unfoldable pub unfinished_bytes : Held → List ℕ
unfinished_bytes x = pack_bytes (length_of x.m) (widths x.m) (values_of x)

-- ---- what is refused, answered and stored

-- of the tiles held: "2 (also m over 4, a field too large for its bits, or an unused place not zero), 3, 4"; a tile too large for its bits is over 33
unfoldable pub unwritable : Held → ℕ
unwritable x = cond (ltb 4 x.m || unused_not_zero x) 2 (held_refusal x 0)

-- the refusal j, "then 13: buffer shorter than" the bytes; 0 where there is neither
unfoldable pub refusal_after : ℕ → Held → List ℕ → ℕ
refusal_after j x buf = cond (ltb 0 j) j (cond (ltb (length buf) (length_of x.m)) 13 0)

-- "It returns the length, 0 if refused": j is the refusal
unfoldable pub written_by : ℕ → Held → Written
written_by j x = cond (ltb 0 j) (record { refusal = j; len = 0 }) (record { refusal = 0; len = length_of x.m })

-- "bytes past the record stay", and a refused call stores none
unfoldable pub buffer_by : ℕ → Held → List ℕ → List ℕ
buffer_by j x buf = cond (ltb 0 j) buf (unfinished_bytes x ++ drop (length_of x.m) buf)

-- ---- from the tiles held

-- what the writer gives
abbrev pub written_of : Held → List ℕ → Written
written_of x buf = written_by (refusal_after (unwritable x) x buf) x

-- what the buffer then holds
abbrev pub buffer_of : Held → List ℕ → List ℕ
buffer_of x buf = buffer_by (refusal_after (unwritable x) x buf) x buf

-- what every value of the type `Held` of the code has: four melds of a byte, 13 concealed tiles
pub record IsHeld (x : Held) : Type 0 where
  pub melds : length x.melds ≡ 4
  pub concealed : length x.concealed ≡ 13
  pub bytes : EachBelow 256 x.melds

-- ---- from a record

-- the tiles held of a record, without its winning tile
abbrev pub held_in_record : List ℕ → Held
held_in_record s = (hand_of (read_of s)).held

-- Read's refusal, 1 to 5, then 13
abbrev pub record_refusal : List ℕ → List ℕ → ℕ
record_refusal s buf = refusal_after (refusal_in (read_of s).answer) (held_in_record s) buf

-- what the writer gives
abbrev pub written_from : List ℕ → List ℕ → Written
written_from s buf = written_by (record_refusal s buf) (held_in_record s)

-- what the buffer then holds
abbrev pub buffer_from : List ℕ → List ℕ → List ℕ
buffer_from s buf = buffer_by (record_refusal s buf) (held_in_record s) buf

-- ---- a writer's refusals before 13

-- j is what comes before 13: of tiles held 2, 3 or 4, of a record Read's 1 to 5; 0 for none. x are the tiles held, w is the answer, b the buffer after it
pub record InOrder (j : ℕ) (x : Held) (buf : List ℕ) (w : Written) (b : List ℕ) : Type 0 where
  -- these first, whatever the buffer
  pub tiles : 0 < j → w.refusal ≡ j
  -- "then 13: buffer shorter than the record": exactly where none of them is met and it is shorter than the bytes
  pub short : (w.refusal ≡ 13) ↔ ((j ≡ 0) × (length buf < length (unfinished_bytes x)))
  -- and accepted exactly where it is not
  pub accepted : (w.refusal ≡ 0) ↔ ((j ≡ 0) × (length (unfinished_bytes x) ≤ length buf))
  -- "a refused call returns its number with all else zero or empty and writes nothing"
  pub nothing : 0 < w.refusal → (w.len ≡ 0) × (b ≡ buf)

-- tiles held that are no unfinished hand's bytes: "m over 4, a field too large for its bits, or an unused place not zero"; a tile has 6 bits
abbrev pub is_unfit : Held → Bool
is_unfit x = ltb 4 x.m || unused_not_zero x || any_below (others x) (λ i. ltb 63 (get_or x.concealed i 0))
