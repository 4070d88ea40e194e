-- The hand record: its bits, Read and Write (01, Tiles and the hand record).
use Rattle.std.specs.Prelude.{◌≡◌, Bool, false, ◌||◌, cond, not, Result, Ok, Err, List, [], ◌∷◌, ◌++◌, ℕ, ◌+◌, ◌*◌, ◌-◌, ltb, eqb, length, get_or, take, drop, replicate}
use Rattle.std.specs.Result.{result_unwrap_or}
use Rattle.bits.specs.Bits.{unpack, eights, EachBelow, bits_of, pack_bytes, fill}
use Rattle.hand.specs.declared.Fields.{Fields}
use Rattle.hand.specs.declared.Held.{Held}
use Rattle.hand.specs.declared.Hand.{Hand}
use Rattle.hand.specs.Held.{descends, over_four}
use Rattle.hand.specs.Refusals.{wrong_fields, in_record, wrong_situation, refusal_of, unwritable}
use Rattle.hand_record.specs.declared.Head.{Head}
use Rattle.refusals.specs.declared.Refusal.{Refusal}
use Rattle.refusals.specs.Refusal.{number, refusal_in as number_in}
use Rattle.hand_record.specs.declared.HandRead.{HandRead as HandReadInCode}
use Rattle.hand_record.specs.declared.ReadHand.{ReadHand}
use Rattle.hand_record.specs.declared.Written.{Written}

-- ---- the layout

-- "how 1 ..; winner 2; discarder 2 ..; riichi 2 ..; situation 3 ..; dora indicator 6; winning tile 6; meld count m 3"
abbrev pub head : List ℕ
head = 1 ∷ 2 ∷ 2 ∷ 2 ∷ 3 ∷ 6 ∷ 6 ∷ 3 ∷ []

-- "other concealed tiles of 6": n widths of 6
abbrev pub sixes : ℕ → List ℕ
sixes n = replicate n 6

-- "13, 12, 11, 10, 8 bytes for m = 0 to 4"
abbrev pub length_of : ℕ → ℕ
length_of m = get_or (13 ∷ 12 ∷ 11 ∷ 10 ∷ 8 ∷ []) m 0

-- "zero bits to the byte": how many
abbrev pub pad_of : ℕ → ℕ
pad_of m = get_or (1 ∷ 3 ∷ 5 ∷ 7 ∷ 1 ∷ []) m 0

-- the widths after a head: "m melds of 8 ..; 13 − 3m other concealed tiles of 6, ..; zero bits to the byte", which are n
abbrev pub held_widths : ℕ → ℕ → List ℕ
held_widths m n = eights m ++ (sixes (13 - 3 * m) ++ (n ∷ []))

-- all widths of a record with m melds
unfoldable pub widths : ℕ → List ℕ
widths m = head ++ held_widths m (pad_of m)

-- ---- a record's values, and the hand that they are

-- the eight values of a head: how, winner, discarder, riichi, situation, "dora indicator", "winning tile" and "meld count m"
abbrev pub head_by : List ℕ → Head
head_by l = record {
  fields = record {
    how = get_or l 0 0;
    winner = get_or l 1 0;
    discarder = get_or l 2 0;
    riichi = get_or l 3 0;
    situation = get_or l 4 0;
    indicator = get_or l 5 0;
    winning = get_or l 6 0;
  };
  m = get_or l 7 0;
}

-- the head of a record: its first 25 bits, "meld count m" the last of them; m says the widths of the rest
unfoldable pub head_of : List ℕ → Head
head_of bits = head_by (unpack head bits)

-- the tiles held that a record's values say, after the first n of them: "m melds", then "13 − 3m other concealed tiles"; an "unused place" is zero
unfoldable pub held_by : ℕ → ℕ → List ℕ → Held
held_by n m l = record { m = m; melds = fill 4 (take m (drop n l)); concealed = fill 13 (take (13 - 3 * m) (drop (n + m) l)) }

-- the hand that the bits of a record with m melds are: each value at its width
unfoldable pub hand_in : ℕ → List ℕ → Hand
hand_in m bits = record { fields = (head_by (unpack (widths m) bits)).fields; held = held_by 8 m (unpack (widths m) bits) }

-- and its "zero bits to the byte", the last value: 0 where none is set
unfoldable pub padding_of : ℕ → List ℕ → ℕ
padding_of m bits = get_or (unpack (widths m) bits) (8 + m + (13 - 3 * m)) 0

-- ---- Read

-- what Read answers: the fields of a sound record, or the number of the refusal
pub data Answer : Type 0 where
  Sound : Fields → Answer
  Refused : ℕ → Answer

-- what it gives: the tiles held stand beside the answer
pub record HandRead : Type 0 where
  pub answer : Answer
  pub held : Held

-- "Where an answer is an enum, a definition gives this paper's number and values for each of its cases": what the code's answer says
abbrev pub answer_of : Result Fields Refusal → Answer
answer_of (Ok f) = Sound f
answer_of (Err r) = Refused (number r)

-- and what the code's Read gives
abbrev pub numbered : HandReadInCode → HandRead
numbered r = record { answer = answer_of r.answer; held = r.held }

-- no meld and no tile: "an all-zero hand"
abbrev pub none_held : Held
none_held = record { m = 0; melds = replicate 4 0; concealed = replicate 13 0 }

-- "It then returns an all-zero hand."
abbrev pub refused_with : ℕ → HandRead
refused_with n = record { answer = Refused n; held = none_held }

-- "A record that meets none of these is sound": its hand
abbrev pub sound_as : Hand → HandRead
sound_as h = record { answer = Sound h.fields; held = h.held }

-- the refusal of an answer: "Read refuses .. 1 .. 5"; 0 where the record is sound
abbrev pub refusal_in : Answer → ℕ
refusal_in (Sound f) = 0
refusal_in (Refused n) = n

-- the fields of an answer: "all-zero" where it is refused
abbrev pub fields_of : Answer → Fields
fields_of (Sound f) = f
fields_of (Refused n) = record { how = 0; winner = 0; discarder = 0; riichi = 0; situation = 0; indicator = 0; winning = 0 }

-- the hand that Read "returns"
abbrev pub hand_of : HandRead → Hand
hand_of r = record { fields = fields_of r.answer; held = r.held }

-- 1: "under 4 bytes, m over 4, or a length not m's"
abbrev pub wrong_length : ℕ → ℕ → Bool
wrong_length n m = ltb n 4 || ltb 4 m || not (eqb n (length_of m))

-- "meld count m" as the record has it
abbrev pub count_in : List ℕ → ℕ
count_in s = (head_of (bits_of s)).m

-- the hand, or the refusal j where there is one: "It then returns an all-zero hand"
unfoldable pub answer_by : Hand → ℕ → HandRead
answer_by h j = cond (ltb 0 j) (refused_with j) (sound_as h)

-- "2 .. 5" of a record of the right length, by its bits
unfoldable pub answer_in : ℕ → List ℕ → HandRead
answer_in m bits = answer_by (hand_in m bits) (refusal_of (hand_in m bits) (padding_of m bits))

-- "Read refuses, first match wins": 1, or what the bits say
unfoldable pub read_of : List ℕ → HandRead
read_of s = cond (wrong_length (length s) (count_in s)) (refused_with 1) (answer_in (count_in s) (bits_of s))

-- what Read gives as one flat structure: the refusal, and the hand, all zero where it is refused
unfoldable pub read_hand_of : List ℕ → ReadHand
read_hand_of s = record { refusal = refusal_in (read_of s).answer; hand = hand_of (read_of s) }

-- ---- a sound record

-- the hand that a record's bits are (01, "Bits, most significant first: .."), sound or not
abbrev pub hand_of_record : List ℕ → Hand
hand_of_record s = hand_in (count_in s) (bits_of s)

-- and its "zero bits to the byte" as a number
abbrev pub padding_of_record : List ℕ → ℕ
padding_of_record s = padding_of (count_in s) (bits_of s)

-- "A record that meets none of these is sound": neither 1, the length, nor 2, the fields, 3, the order of the tiles, 4, over four of a kind, 5, the situation
pub record IsSound (s : List ℕ) : Type 0 where
  pub len : wrong_length (length s) (count_in s) ≡ false
  pub fields : wrong_fields (hand_of_record s) (padding_of_record s) ≡ false
  pub order : descends (hand_of_record s).held ≡ false
  pub four : over_four (in_record (hand_of_record s)) ≡ false
  pub situation : wrong_situation (hand_of_record s) ≡ false

-- ---- Write

-- the head's values in the record's order: how, winner, discarder and the others up to "meld count m"
abbrev pub head_list : Head → List ℕ
head_list x =
    let f = x.fields in
    f.how ∷ f.winner ∷ f.discarder ∷ f.riichi ∷ f.situation ∷ f.indicator ∷ f.winning ∷ x.m ∷ []

-- the head of a hand's record
abbrev pub head_for : Hand → Head
head_for h = record { fields = h.fields; m = h.held.m }

-- the values after a head: the m melds, the 13 − 3m tiles, "zero bits to the byte"
abbrev pub held_values : Held → List ℕ
held_values x = take x.m x.melds ++ (take (13 - 3 * x.m) x.concealed ++ (0 ∷ []))

-- and all values of a record
unfoldable pub values_of : Hand → List ℕ
values_of h = head_list (head_for h) ++ held_values h.held

-- "Write takes a hand": its record, each value at its width, as bytes
unfoldable pub record_of : Hand → List ℕ
record_of h = pack_bytes (length_of h.held.m) (widths h.held.m) (values_of h)

-- "Refusals: 2 .., 3, 4, 5 as above, then 13: buffer shorter than the record"
unfoldable pub write_refusal : Hand → List ℕ → ℕ
write_refusal h buf = cond (ltb 0 (unwritable h)) (unwritable h) (cond (ltb (length buf) (length_of h.held.m)) 13 0)

-- "It returns the length, 0 if refused"
unfoldable pub written_of : Hand → List ℕ → Written
written_of h buf =
    cond (ltb 0 (write_refusal h buf)) (record { refusal = write_refusal h buf; len = 0 }) (record { refusal = 0; len = length_of h.held.m })

-- what C is given of a writer's answer: the refusal's number and 0, or 0 and the length
abbrev pub written_in : Result ℕ Refusal → Written
written_in w = record { refusal = number_in w; len = result_unwrap_or w 0 }

-- "bytes past the record stay"; "a refused write changes no byte of the buffer"
unfoldable pub buffer_of : Hand → List ℕ → List ℕ
buffer_of h buf = cond (ltb 0 (write_refusal h buf)) buf (record_of h ++ drop (length_of h.held.m) buf)

-- what every value of the type `Hand` of the code has: four melds of a byte, 13 concealed tiles
pub record IsHand (h : Hand) : Type 0 where
  pub melds : length h.held.melds ≡ 4
  pub concealed : length h.held.concealed ≡ 13
  pub bytes : EachBelow 256 h.held.melds
