-- What an entry of a log is, a constructor a kind (01, Log; 02, S-6, S-8 and S-10): its bytes, "from its header on", what they book, and its letter.
use Rattle.std.specs.Prelude.{◌≡◌, false, List, [], ◌∷◌, ℕ, ◌+◌, ◌*◌, ◌-◌, ◌≤◌, ◌<◌, length}
use Rattle.hand_record.specs.Record.{count_in, wrong_length}
use Rattle.hand_rons.specs.Records.{records_of}
use Rattle.reading.specs.All.{Each}
use Rattle.position.specs.Booking.{Result}
use Rattle.position.specs.Booking as Booking
use Rattle.game.specs.Game.{Entry}
use Rattle.game.specs.Game as Game

-- bytes of the length that Read wants: neither "m over 4" nor "bytes missing", and none too many
abbrev pub HasLength : List ℕ → Type 0
HasLength s = wrong_length (length s) (count_in s) ≡ false

-- the bytes of a result: "Header byte: kind 4 bits (.. 1 win, 2 draw, 3 chombo), argument 4"
pub data IsResult : List ℕ → Result → Type 0 where
  -- "A win has argument 0 and its record follows"
  win : (s : List ℕ) → HasLength s → IsResult (16 ∷ s) (Booking.win s)
  -- "2 draw", the argument being who is ready; "3 chombo", of a seat
  draw : (bits : ℕ) → bits < 16 → IsResult ((32 + bits) ∷ []) (Booking.draw bits)
  chombo : (seat : ℕ) → seat < 16 → IsResult ((48 + seat) ∷ []) (Booking.chombo seat)
  -- S-6: "Log kind 4 .. its argument being how many records follow", one to three
  multi_ron : (n : ℕ) (s : List ℕ) → 0 < n → n ≤ 3 → Each HasLength (records_of n s) → IsResult ((64 + n) ∷ s) (Booking.multi_ron n s)

-- the bytes of an entry
pub data IsEntry : List ℕ → Entry → Type 0 where
  -- "0 riichi"
  riichi : (seat : ℕ) → seat < 16 → IsEntry (seat ∷ []) (Game.booking (Booking.riichi seat))
  -- S-8: "kind 5, .. argument 0, then a byte: holder 2 bits, feeder 2, yaku 1 (0 for 28), three zero bits"; a byte is under 256, so that the holder
  -- is at most 3
  pao : (holder feeder yaku : ℕ) → feeder ≤ 3 → 28 ≤ yaku → yaku ≤ 29
      → IsEntry (80 ∷ (64 * holder + 16 * feeder + 8 * (yaku - 28)) ∷ []) (Game.booking (Booking.pao holder feeder yaku))
  result : (s : List ℕ) (r : Result) → IsResult s r → IsEntry s (Game.booking (Booking.result r))
  -- S-10: "kind 6, .. argument 0, then the replacing entry"
  correction : (s : List ℕ) (r : Result) → IsResult s r → IsEntry (96 ∷ s) (Game.correction r)

-- "letter R W D C"; S-6: "letter M"; S-8: "letter P"; S-10: "letter X": R is 82, W 87, D 68, C 67, M 77, P 80, X 88
abbrev pub letter_of : Entry → ℕ
letter_of (Game.booking (Booking.riichi seat)) = 82
letter_of (Game.booking (Booking.result (Booking.win s))) = 87
letter_of (Game.booking (Booking.result (Booking.draw bits))) = 68
letter_of (Game.booking (Booking.result (Booking.chombo seat))) = 67
letter_of (Game.booking (Booking.result (Booking.multi_ron n s))) = 77
letter_of (Game.booking (Booking.pao holder feeder yaku)) = 80
letter_of (Game.correction r) = 88
