-- The bookings that a position takes (01, The game; 02, S-6 and S-8).
use Rattle.std.specs.Prelude.{List, ℕ}

-- the result of a hand, which finishes it and which a correction may carry: "a win, draw, chombo or multiple ron" (02, S-10)
pub data Result : Type 0 where
  -- "Win (record)", "Draw (four bits, seat 0 first, set for ready)", "Chombo (seat)"
  win : List ℕ → Result
  draw : ℕ → Result
  chombo : ℕ → Result
  -- "One booking takes one to three win records": "their number", and the records "end to end" (02, S-6)
  multi_ron : ℕ → List ℕ → Result

-- a booking: "Riichi (seat)"; pao, which "names holder, feeder and yaku" (02, S-8); or a result
pub data Booking : Type 0 where
  riichi : ℕ → Booking
  pao : ℕ → ℕ → ℕ → Booking
  result : Result → Booking
