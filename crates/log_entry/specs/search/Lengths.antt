-- How the code finds the entry that bytes start with (01, Log; 02, S-6, S-8 and S-10): how long it is, by its kind, its argument and the bytes after its
-- header; 0 where there is none.
use Rattle.std.specs.Prelude.{Bool, false, ◌&&◌, ◌||◌, cond, List, [], ◌∷◌, ℕ, zero, suc, ◌+◌, ◌/◌, ◌%◌, ltb, leb, eqb, length, get_or, drop}
use Rattle.hand_record.specs.Record.{length_of, count_in}
use Rattle.hand_record.specs.Lengths.{is_broken, record_length}

-- "kind 4 bits (0 riichi, 1 win, 2 draw, 3 chombo)"
abbrev pub riichi_kind : ℕ
riichi_kind = 0

abbrev pub win_kind : ℕ
win_kind = 1

abbrev pub draw_kind : ℕ
draw_kind = 2

abbrev pub chombo_kind : ℕ
chombo_kind = 3

-- S-6: "Log kind 4"
abbrev pub multi_ron_kind : ℕ
multi_ron_kind = 4

-- S-8: "In the log it is kind 5"
abbrev pub pao_kind : ℕ
pao_kind = 5

-- S-10: "In the log it is kind 6"
abbrev pub correction_kind : ℕ
correction_kind = 6

-- "Header byte: kind 4 bits": that of an entry's bytes
abbrev pub kind_in : List ℕ → ℕ
kind_in s = get_or s 0 0 / 16

-- "argument 4"
abbrev pub argument_in : List ℕ → ℕ
argument_in s = get_or s 0 0 % 16

-- S-6: "They lie end to end", each "as long as its m says": of n records from the start of bytes one has "m over 4, or missing bytes"
unfoldable pub has_broken : ℕ → List ℕ → Bool
has_broken zero s = false
has_broken (suc n) s = is_broken s || has_broken n (drop (length_of (count_in s)) s)

-- how many bytes the n records are by their m
unfoldable pub span_of : ℕ → List ℕ → ℕ
span_of zero s = 0
span_of (suc n) s = length_of (count_in s) + span_of n (drop (length_of (count_in s)) s)

-- how many bytes the n records have that bytes start with; 0 where one is broken
unfoldable pub records_length : ℕ → List ℕ → ℕ
records_length n s = cond (has_broken n s) 0 (span_of n s)

-- S-8: "then a byte: holder 2 bits, feeder 2, yaku 1 (0 for 28), three zero bits", the first of the bytes after the header
abbrev pub holder_in : List ℕ → ℕ
holder_in s = get_or s 0 0 / 64

abbrev pub feeder_in : List ℕ → ℕ
feeder_in s = get_or s 0 0 / 16 % 4

abbrev pub yaku_in : List ℕ → ℕ
yaku_in s = 28 + get_or s 0 0 / 8 % 2

-- no byte follows, or one of its "three zero bits" is set: "any other form"
abbrev pub is_other_form : List ℕ → Bool
is_other_form s = ltb (length s) 1 || ltb 0 (get_or s 0 0 % 8)

-- ---- how long an entry is, by its argument and the bytes after its header; 0 where it is bad

-- a header and the n bytes that follow it; 0 stays 0
abbrev pub with_header : ℕ → ℕ
with_header n = cond (eqb n 0) 0 (n + 1)

-- "A win has argument 0 and its record follows"; bad: "win argument not 0, m over 4, or bytes missing"
abbrev pub win_length : ℕ → List ℕ → ℕ
win_length argument rest = cond (eqb argument 0) (with_header (record_length rest)) 0

-- S-6: "its argument being how many records follow"; bad: "an argument of 0 or over 3, a record with m over 4, or missing bytes"
abbrev pub multi_ron_length : ℕ → List ℕ → ℕ
multi_ron_length argument rest = cond (eqb argument 0 || ltb 3 argument) 0 (with_header (records_length argument rest))

-- S-8: "argument 0, then a byte"; bad: "any other form is 14"
abbrev pub pao_length : ℕ → List ℕ → ℕ
pao_length argument rest = cond (eqb argument 0) (cond (is_other_form rest) 0 2) 0

-- of a kind that carries no other entry: of riichi, draw and chombo the header alone; bad: "kind over 3" other than S-6's and S-8's
unfoldable pub length_by : ℕ → ℕ → List ℕ → ℕ
length_by kind argument rest =
    cond (eqb kind riichi_kind) 1 (cond (eqb kind win_kind) (win_length argument rest) (cond (eqb kind draw_kind) 1 (cond (eqb kind chombo_kind) 1
    (cond (eqb kind multi_ron_kind) (multi_ron_length argument rest) (cond (eqb kind pao_kind) (pao_length argument rest) 0)))))

-- S-10: "argument 0, then the replacing entry": "a win, draw, chombo or multiple ron"; bad: "another argument or another kind of entry inside is 14"
abbrev pub correction_length : ℕ → List ℕ → ℕ
correction_length argument rest =
    cond (eqb argument 0 && (leb win_kind (kind_in rest) && leb (kind_in rest) multi_ron_kind))
    (with_header (length_by (kind_in rest) (argument_in rest) (drop 1 rest))) 0

-- how many bytes the entry has that bytes start with, "from its header on"; 0 where there is none
unfoldable pub entry_length : List ℕ → ℕ
entry_length [] = 0
entry_length (header ∷ rest) = cond (eqb (header / 16) correction_kind) (correction_length (header % 16) rest) (length_by (header / 16) (header % 16) rest)
