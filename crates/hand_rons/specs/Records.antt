-- Records that lie end to end, and what makes them rons on one tile (02, S-6).
use Rattle.std.specs.Prelude.{◌≡◌, Bool, false, ◌||◌, not, cond, Result, Ok, Err, List, [], ◌∷◌, ℕ, zero, suc, ◌+◌, ◌-◌, ◌%◌, ◌≤◌, ◌<◌, ltb, eqb, length, take, drop}
use Rattle.hand.specs.declared.Fields.{Fields}
use Rattle.hand.specs.declared.Hand.{Hand}
use Rattle.hand.specs.Hand.{is_ron}
use Rattle.hand_record.specs.Lengths.{record_length}
use Rattle.hand_record.specs.Record.{length_of, count_in, refused_with, refusal_in, hand_of, read_of}
use Rattle.refusals.specs.declared.Refusal.{Refusal}
use Rattle.refusals.specs.Refusal.{number}
use Rattle.hand_rons.specs.declared.First.{First as FirstInCode}

-- the hand that Read gives of a win's record
abbrev pub hand_for : List ℕ → Hand
hand_for s = hand_of (read_of s)

-- "They lie end to end, with their number: each but the last as long as its m says, the last all that is left"
unfoldable pub records_of : ℕ → List ℕ → List (List ℕ)
records_of zero s = []
records_of (suc zero) s = s ∷ []
records_of (suc (suc n)) s = take (length_of (count_in s)) s ∷ records_of (suc n) (drop (length_of (count_in s)) s)

-- "Read's refusal of the first unreadable record", 0 where each reads; "what doesn't fit is Read's 1"
unfoldable pub first_unreadable : List (List ℕ) → ℕ
first_unreadable [] = 0
first_unreadable (s ∷ ss) = cond (ltb 0 (refusal_in (read_of s).answer)) (refusal_in (read_of s).answer) (first_unreadable ss)

-- where the first of n records ends: "each but the last as long as its m says, the last all that is left"; 0 where it doesn't fit
unfoldable pub cut_of : ℕ → List ℕ → ℕ
cut_of n s = cond (eqb n 1) (length s) (record_length s)

-- the first of several records, read: its refusal, or 0, where it ends, and its hand
pub record First : Type 0 where
  pub refusal : ℕ
  pub end : ℕ
  pub hand : Hand

-- what the code's answer says: the refusal's number, or where the record ends and its hand
abbrev pub numbered : Result FirstInCode Refusal → First
numbered (Ok r) = record { refusal = 0; end = r.end; hand = r.hand }
numbered (Err e) = record { refusal = number e; end = 0; hand = hand_of (refused_with 0) }

-- the first of n records, read: its refusal, or its hand and where it ends and the others begin
pub record IsFirst (n : ℕ) (s : List ℕ) (r : First) : Type 0 where
  pub refused : 0 < r.refusal → first_unreadable (records_of n s) ≡ r.refusal
  pub inside : r.end ≤ length s
  pub reads : r.refusal ≡ 0 → refusal_in (read_of (take r.end s)).answer ≡ 0
  pub hand : r.refusal ≡ 0 → r.hand ≡ hand_for (take r.end s)
  pub others : r.refusal ≡ 0 → records_of n s ≡ take r.end s ∷ records_of (n - 1) (drop r.end s)

-- "two have one winner, or they differ in discarder, winning tile, indicator or situation"
abbrev pub conflict : Fields → Fields → Bool
conflict f g =
    eqb f.winner g.winner
    || not (eqb f.discarder g.discarder)
    || not (eqb f.winning g.winning)
    || not (eqb f.indicator g.indicator)
    || not (eqb f.situation g.situation)

-- one of the records is in conflict with f
unfoldable pub conflicts : Fields → List (List ℕ) → Bool
conflicts f [] = false
conflicts f (s ∷ ss) = conflict f (hand_for s).fields || conflicts f ss

-- 17: "where a record isn't ron, two have one winner, or they differ ..."
unfoldable pub not_on_one_tile : List (List ℕ) → Bool
not_on_one_tile [] = false
not_on_one_tile (s ∷ ss) = not (is_ron (hand_for s).fields) || conflicts (hand_for s).fields ss || not_on_one_tile ss

-- the seat wins one of them
unfoldable pub is_winner : List (List ℕ) → ℕ → Bool
is_winner [] seat = false
is_winner (s ∷ ss) seat = eqb (hand_for s).fields.winner seat || is_winner ss seat

-- who discarded the tile; all rons on one tile say the same
abbrev pub discarder_of : List (List ℕ) → ℕ
discarder_of [] = 0
discarder_of (s ∷ ss) = (hand_for s).fields.discarder

-- "the first winner in turn order after the discarder": the next seat, the one after it, or the last
abbrev pub first_after : ℕ → (ℕ → Bool) → ℕ
first_after d wins = cond (wins ((d + 1) % 4)) ((d + 1) % 4) (cond (wins ((d + 2) % 4)) ((d + 2) % 4) ((d + 3) % 4))

-- of records: the first of their winners after who discarded the tile
abbrev pub first_winner : List (List ℕ) → ℕ
first_winner rs = first_after (discarder_of rs) (is_winner rs)

-- how many turns after the discarder a seat is
abbrev pub turns_after : ℕ → ℕ → ℕ
turns_after d seat = (seat + 4 - d) % 4
