-- How the code finds what Next entry gives: the part by its length, and which entry it is by its header. A kind that no entry has is
-- booked as a chombo's and has no letter.
use Rattle.std.specs.Prelude.{cond, List, ℕ, zero, suc, leb, eqb, length, take, drop}
use Rattle.position.specs.Booking.{Result, Booking, result, riichi, win, draw, chombo, pao, multi_ron}
use Rattle.game.specs.Game.{Entry, booking, correction}
use Rattle.log_entry.specs.Next.{Next, end, entry, bad}
use Rattle.log_entry.specs.search.Lengths.{riichi_kind, win_kind, draw_kind, chombo_kind, multi_ron_kind, pao_kind, correction_kind}
use Rattle.log_entry.specs.search.Lengths.{kind_in, argument_in, holder_in, feeder_in, yaku_in, entry_length}

-- the result of a kind, its argument and the bytes after the header
abbrev pub result_by : ℕ → ℕ → List ℕ → Result
result_by kind argument s =
    cond (eqb kind win_kind) (win s)
    (cond (eqb kind draw_kind) (draw argument)
    (cond (eqb kind multi_ron_kind) (multi_ron argument s)
    (chombo argument)))

-- the booking
abbrev pub booking_by : ℕ → ℕ → List ℕ → Booking
booking_by kind argument s =
    cond (eqb kind riichi_kind) (riichi argument)
    (cond (eqb kind pao_kind) (pao (holder_in s) (feeder_in s) (yaku_in s))
    (result (result_by kind argument s)))

-- of an entry's bytes
unfoldable pub result_of : List ℕ → Result
result_of part = result_by (kind_in part) (argument_in part) (drop 1 part)

unfoldable pub booking_of : List ℕ → Booking
booking_of part = booking_by (kind_in part) (argument_in part) (drop 1 part)

unfoldable pub entry_of : List ℕ → Entry
entry_of part = cond (eqb (kind_in part) correction_kind) (correction (result_of (drop 1 part))) (booking (booking_of part))

-- the letter of a kind; 0 where no entry has it
abbrev pub letter_by : ℕ → ℕ
letter_by kind =
    cond (eqb kind riichi_kind) 82 (cond (eqb kind win_kind) 87 (cond (eqb kind draw_kind) 68 (cond (eqb kind chombo_kind) 67
    (cond (eqb kind multi_ron_kind) 77 (cond (eqb kind pao_kind) 80 (cond (eqb kind correction_kind) 88 0))))))

-- the part of the first n bytes; none where n is 0
abbrev pub found_by : ℕ → List ℕ → Next
found_by zero s = bad
found_by (suc n) s = entry (record { part = take (suc n) s; entry = entry_of (take (suc n) s) })

unfoldable pub found_at : List ℕ → ℕ → Next
found_at log at = cond (leb (length log) at) end (found_by (entry_length (drop at log)) (drop at log))
