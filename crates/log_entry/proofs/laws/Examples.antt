-- Document 01's log; a win, a multiple ron, a pao, a correction, and each that is none. Computed: 14 is where the length found is 0.
use Rattle.std.specs.Prelude.{◌≡◌, refl, List, [], ◌∷◌, ◌++◌, take, drop}
use Rattle.std.proofs.Common.{ap, ◌∙◌, arith}
use Rattle.hand_record.specs.Record.{head_of}
use Rattle.hand_record.proofs.laws.Examples.{line1, line6}
use Rattle.hand_record.specs.Lengths.{record_length}
use Rattle.position.specs.Booking.{result, riichi, draw}
use Rattle.game.specs.Game.{booking, correction}
use Rattle.log_entry.specs.Next.{LogEntry}
use Rattle.log_entry.specs.Log.{entries_of}
use Rattle.log_entry.specs.search.Found.{result_of, booking_of, entry_of}
use Rattle.log_entry.proofs.laws.Walk.{parts_none, parts_some}
use Rattle.log_entry.specs.search.Lengths.{has_broken, span_of, records_length, holder_in, feeder_in, yaku_in, length_by, entry_length}

-- "Hexadecimal 01 24": riichi by seat 1 and a draw with seat 1 ready; then the draw put right by one with seats 0 and 1 ready, `60 2c`
abbrev pub declared : LogEntry
declared = record { part = 1 ∷ []; entry = booking (riichi 1) }

abbrev pub drawn : LogEntry
drawn = record { part = 36 ∷ []; entry = booking (result (draw 4)) }

abbrev pub corrected : LogEntry
corrected = record { part = 96 ∷ 44 ∷ []; entry = correction (draw 12) }

pub example : entries_of (1 ∷ 36 ∷ []) ≡ declared ∷ drawn ∷ []
unfolding record_length length_by entry_length result_of booking_of entry_of
example =
    parts_some (1 ∷ 36 ∷ []) (omega arith)
    ∙ ap (λ (r : List LogEntry). declared ∷ r) (parts_some (36 ∷ []) (omega arith) ∙ ap (λ (r : List LogEntry). drawn ∷ r) (parts_none [] refl))

pub example_corrected : entries_of (1 ∷ 36 ∷ 96 ∷ 44 ∷ []) ≡ declared ∷ drawn ∷ corrected ∷ []
unfolding record_length length_by entry_length result_of booking_of entry_of
example_corrected =
    parts_some (1 ∷ 36 ∷ 96 ∷ 44 ∷ []) (omega arith)
    ∙ ap (λ (r : List LogEntry). declared ∷ r) (parts_some (36 ∷ 96 ∷ 44 ∷ []) (omega arith)
    ∙ ap (λ (r : List LogEntry). drawn ∷ r) (parts_some (96 ∷ 44 ∷ []) (omega arith)
    ∙ ap (λ (r : List LogEntry). corrected ∷ r) (parts_none [] refl)))

-- a win of 13 bytes, and the same with a byte missing, an argument, m 5; and kind 7
pub win_whole : entry_length (16 ∷ line1.bytes) ≡ 14
unfolding head_of record_length length_by entry_length
win_whole = refl

pub refusals : (entry_length (16 ∷ take 12 line1.bytes) ≡ 0) × (entry_length (17 ∷ line1.bytes) ≡ 0)
    × (entry_length (16 ∷ 0 ∷ 0 ∷ 2 ∷ 128 ∷ drop 4 line1.bytes) ≡ 0) × (entry_length (112 ∷ []) ≡ 0)
unfolding head_of record_length length_by entry_length
refusals = (refl, refl, refl, refl)

-- S-6: records of 12 and 13 bytes; and the same with no record said, four, a byte missing, and m 5 in the second
pub multi_ron_whole : entry_length (66 ∷ line6.bytes ++ line1.bytes ++ 1 ∷ []) ≡ 26
unfolding head_of record_length has_broken span_of records_length length_by entry_length
multi_ron_whole = refl

pub multi_ron_refusals : (entry_length (64 ∷ line6.bytes) ≡ 0) × (entry_length (68 ∷ line6.bytes ++ line6.bytes ++ line6.bytes ++ line6.bytes) ≡ 0)
    × (entry_length (66 ∷ line6.bytes ++ take 12 line1.bytes) ≡ 0) × (entry_length (66 ∷ line6.bytes ++ 0 ∷ 0 ∷ 2 ∷ 128 ∷ drop 4 line1.bytes) ≡ 0)
unfolding head_of record_length has_broken span_of records_length length_by entry_length
multi_ron_refusals = (refl, refl, refl, refl)

-- S-8: seat 2 holds, seat 1 is the feeder, yaku 29; and the same with the byte missing, an argument, and each zero bit set
pub example_pao : entry_length (80 ∷ 152 ∷ []) ≡ 2
unfolding record_length length_by entry_length
example_pao = refl

pub example_fields : (holder_in (152 ∷ []) ≡ 2) × (feeder_in (152 ∷ []) ≡ 1) × (yaku_in (152 ∷ []) ≡ 29)
example_fields = (refl, refl, refl)

pub pao_refusals : (entry_length (80 ∷ []) ≡ 0) × (entry_length (81 ∷ 152 ∷ []) ≡ 0) × (entry_length (80 ∷ 153 ∷ []) ≡ 0) × (entry_length (80 ∷ 154 ∷ []) ≡ 0)
    × (entry_length (80 ∷ 156 ∷ []) ≡ 0)
unfolding record_length length_by entry_length
pao_refusals = (refl, refl, refl, refl, refl)

-- S-10: a chombo by seat 2 and a win that replace; then no entry inside, an argument, a riichi inside, a pao, a correction, and a win with a byte missing
pub example_corrections : (entry_length (96 ∷ 50 ∷ 1 ∷ []) ≡ 2) × (entry_length (96 ∷ 16 ∷ line1.bytes) ≡ 15)
unfolding head_of record_length length_by entry_length
example_corrections = (refl, refl)

pub correction_refusals : (entry_length (96 ∷ []) ≡ 0) × (entry_length (97 ∷ 48 ∷ []) ≡ 0) × (entry_length (96 ∷ 2 ∷ []) ≡ 0)
    × (entry_length (96 ∷ 80 ∷ 152 ∷ []) ≡ 0) × (entry_length (96 ∷ 96 ∷ 48 ∷ []) ≡ 0) × (entry_length (96 ∷ 16 ∷ take 12 line1.bytes) ≡ 0)
unfolding head_of record_length length_by entry_length
correction_refusals = (refl, refl, refl, refl, refl, refl)
