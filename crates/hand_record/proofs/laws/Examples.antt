-- The hands 1 to 9 and 12 of document 01's table as records, each with the hand that it reads as: "Dealer 0, East, indicator North,
-- no riichi, ordinary, each ron from seat 3; m p s are suits". Kinds: 1m is 0, 1p is 9, 1s is 18, North is 30. Beside each row its hand,
-- the other concealed tiles in the record's order and then the winning tile.
use Rattle.std.specs.Prelude.{List, [], ◌∷◌, ◌≡◌, refl, ℕ}
use Rattle.hand.specs.declared.Hand.{Hand}
use Rattle.hand.specs.Held.{meld_holds, in_melds, in_others, in_held, tile_over33, wrong_held, descends, over_four}
use Rattle.hand.specs.Hand.{in_hand}
use Rattle.hand.specs.Refusals.{wrong_fields, in_record, wrong_situation, refusal_of}
use Rattle.tiles.specs.Below.{all_below, any_below, count_below}
use Rattle.tiles.specs.Groups.{at_kind}
use Rattle.hand_record.specs.Record.{head_of, held_by, hand_in, padding_of, sound_as, answer_by, answer_in, read_of, widths, values_of}
use Rattle.hand_record.specs.Record.{record_of}

-- "indicator North, no riichi, ordinary": how (0 tsumo, 1 ron), winner, discarder, winning tile, m, melds, other concealed tiles
abbrev pub won : ℕ → ℕ → ℕ → ℕ → ℕ → List ℕ → List ℕ → Hand
won how winner discarder winning m melds concealed =
    record {
      fields = record { how = how; winner = winner; discarder = discarder; riichi = 0; situation = 0; indicator = 30; winning = winning };
      held = record { m = m; melds = melds; concealed = concealed };
    }

-- a record, and the hand that it is
pub record Row : Type 0 where
  pub bytes : List ℕ
  pub hand : Hand

-- "1. 234567m 345p 678s 22s, closed, won by 8s. Seat 1 ron": 234567m 345p 22s 67s, and 8s
abbrev pub line1 : Row
line1 =
    record {
      bytes = 184 ∷ 30 ∷ 100 ∷ 2 ∷ 16 ∷ 98 ∷ 10 ∷ 49 ∷ 102 ∷ 26 ∷ 154 ∷ 107 ∷ 176 ∷ [];
      hand = won 1 1 3 25 0 (0 ∷ 0 ∷ 0 ∷ 0 ∷ [])
          (1 ∷ 2 ∷ 3 ∷ 4 ∷ 5 ∷ 6 ∷ 11 ∷ 12 ∷ 13 ∷ 19 ∷ 19 ∷ 23 ∷ 24 ∷ []);
    }

-- "2. Tsumo": the same hand by seat 1
abbrev pub line2 : Row
line2 =
    record {
      bytes = 32 ∷ 30 ∷ 100 ∷ 2 ∷ 16 ∷ 98 ∷ 10 ∷ 49 ∷ 102 ∷ 26 ∷ 154 ∷ 107 ∷ 176 ∷ [];
      hand = won 0 1 0 25 0 (0 ∷ 0 ∷ 0 ∷ 0 ∷ [])
          (1 ∷ 2 ∷ 3 ∷ 4 ∷ 5 ∷ 6 ∷ 11 ∷ 12 ∷ 13 ∷ 19 ∷ 19 ∷ 23 ∷ 24 ∷ []);
    }

-- "3. Seat 0 ron": the same hand
abbrev pub line3 : Row
line3 =
    record {
      bytes = 152 ∷ 30 ∷ 100 ∷ 2 ∷ 16 ∷ 98 ∷ 10 ∷ 49 ∷ 102 ∷ 26 ∷ 154 ∷ 107 ∷ 176 ∷ [];
      hand = won 1 0 3 25 0 (0 ∷ 0 ∷ 0 ∷ 0 ∷ [])
          (1 ∷ 2 ∷ 3 ∷ 4 ∷ 5 ∷ 6 ∷ 11 ∷ 12 ∷ 13 ∷ 19 ∷ 19 ∷ 23 ∷ 24 ∷ []);
    }

-- "4. 111222333m 789s 99p, seat 1 tsumo by 9s": 111222333m 99p 78s, and 9s
abbrev pub line4 : Row
line4 =
    record {
      bytes = 32 ∷ 30 ∷ 104 ∷ 0 ∷ 0 ∷ 0 ∷ 130 ∷ 8 ∷ 65 ∷ 4 ∷ 138 ∷ 44 ∷ 50 ∷ [];
      hand = won 0 1 0 26 0 (0 ∷ 0 ∷ 0 ∷ 0 ∷ [])
          (0 ∷ 0 ∷ 0 ∷ 1 ∷ 1 ∷ 1 ∷ 2 ∷ 2 ∷ 2 ∷ 17 ∷ 17 ∷ 24 ∷ 25 ∷ []);
    }

-- "5. 112233m 778899p 55s, seat 1 ron 5s": 112233m 778899p 5s, and 5s
abbrev pub line5 : Row
line5 =
    record {
      bytes = 184 ∷ 30 ∷ 88 ∷ 0 ∷ 0 ∷ 32 ∷ 132 ∷ 17 ∷ 231 ∷ 160 ∷ 130 ∷ 40 ∷ 172 ∷ [];
      hand = won 1 1 3 22 0 (0 ∷ 0 ∷ 0 ∷ 0 ∷ [])
          (0 ∷ 0 ∷ 1 ∷ 1 ∷ 2 ∷ 2 ∷ 15 ∷ 15 ∷ 16 ∷ 16 ∷ 17 ∷ 17 ∷ 22 ∷ []);
    }

-- "6. Chi 234m, 567m 456p 678s 22p, seat 1 ron 8s": chi 234m; 567m 22456p 67s, and 8s
abbrev pub line6 : Row
line6 =
    record {
      bytes = 184 ∷ 30 ∷ 100 ∷ 128 ∷ 136 ∷ 40 ∷ 197 ∷ 20 ∷ 97 ∷ 167 ∷ 46 ∷ 192 ∷ [];
      hand = won 1 1 3 25 1 (1 ∷ 0 ∷ 0 ∷ 0 ∷ [])
          (4 ∷ 5 ∷ 6 ∷ 10 ∷ 10 ∷ 12 ∷ 13 ∷ 14 ∷ 23 ∷ 24 ∷ 0 ∷ 0 ∷ 0 ∷ []);
    }

-- "7. Chi 123m, 456p 789s 234s 99p, seat 1 ron 9s": chi 123m; 45699p 23478s, and 9s
abbrev pub line7 : Row
line7 =
    record {
      bytes = 184 ∷ 30 ∷ 104 ∷ 128 ∷ 24 ∷ 105 ∷ 200 ∷ 162 ∷ 154 ∷ 138 ∷ 176 ∷ 200 ∷ [];
      hand = won 1 1 3 26 1 (0 ∷ 0 ∷ 0 ∷ 0 ∷ [])
          (12 ∷ 13 ∷ 14 ∷ 17 ∷ 17 ∷ 19 ∷ 20 ∷ 21 ∷ 24 ∷ 25 ∷ 0 ∷ 0 ∷ 0 ∷ []);
    }

-- "8. 111m 333p 555s 777s 99s, seat 1 ron 7s": 111m 333p 5557799s, and 7s
abbrev pub line8 : Row
line8 =
    record {
      bytes = 184 ∷ 30 ∷ 96 ∷ 0 ∷ 0 ∷ 5 ∷ 150 ∷ 90 ∷ 203 ∷ 44 ∷ 195 ∷ 13 ∷ 52 ∷ [];
      hand = won 1 1 3 24 0 (0 ∷ 0 ∷ 0 ∷ 0 ∷ [])
          (0 ∷ 0 ∷ 0 ∷ 11 ∷ 11 ∷ 11 ∷ 22 ∷ 22 ∷ 22 ∷ 24 ∷ 24 ∷ 26 ∷ 26 ∷ []);
    }

-- "9. By tsumo": the same hand by seat 1
abbrev pub line9 : Row
line9 =
    record {
      bytes = 32 ∷ 30 ∷ 96 ∷ 0 ∷ 0 ∷ 5 ∷ 150 ∷ 90 ∷ 203 ∷ 44 ∷ 195 ∷ 13 ∷ 52 ∷ [];
      hand = won 0 1 0 24 0 (0 ∷ 0 ∷ 0 ∷ 0 ∷ [])
          (0 ∷ 0 ∷ 0 ∷ 11 ∷ 11 ∷ 11 ∷ 22 ∷ 22 ∷ 22 ∷ 24 ∷ 24 ∷ 26 ∷ 26 ∷ []);
    }

-- "12. 1111m 44m 77m 22p 55p 88p, seat 1 ron 8p": 11114477m 22558p, and 8p
abbrev pub line12 : Row
line12 =
    record {
      bytes = 184 ∷ 30 ∷ 64 ∷ 0 ∷ 0 ∷ 0 ∷ 6 ∷ 24 ∷ 195 ∷ 20 ∷ 81 ∷ 166 ∷ 160 ∷ [];
      hand = won 1 1 3 16 0 (0 ∷ 0 ∷ 0 ∷ 0 ∷ [])
          (0 ∷ 0 ∷ 0 ∷ 0 ∷ 3 ∷ 3 ∷ 6 ∷ 6 ∷ 10 ∷ 10 ∷ 13 ∷ 13 ∷ 16 ∷ []);
    }

-- Read gives the hand, and its record is the bytes: this fixes "most significant first" too
pub record ReadsBack (r : Row) : Type 0 where
  pub read : read_of r.bytes ≡ sound_as r.hand
  pub write : record_of r.hand ≡ r.bytes

-- "Table of hands to prove" (01): lines 1 to 9 and 12 as records
abbrev pub Table : Type 0
Table =
    ReadsBack line1 × ReadsBack line2 × ReadsBack line3 × ReadsBack line4 × ReadsBack line5 × ReadsBack line6 × ReadsBack line7 × ReadsBack line8
    × ReadsBack line9 × ReadsBack line12

-- each row reads and writes back
pub table : Table
unfolding all_below any_below count_below at_kind meld_holds in_melds in_others in_held in_hand tile_over33 wrong_held wrong_fields descends in_record over_four
    wrong_situation refusal_of head_of held_by hand_in padding_of answer_by answer_in read_of widths values_of record_of
table = (
  record { read = refl; write = refl },
  record { read = refl; write = refl },
  record { read = refl; write = refl },
  record { read = refl; write = refl },
  record { read = refl; write = refl },
  record { read = refl; write = refl },
  record { read = refl; write = refl },
  record { read = refl; write = refl },
  record { read = refl; write = refl },
  record { read = refl; write = refl },
)

-- line 6 of document 01's table, bit by bit (docs/RECORDS.md): chi 234m, 567m 22456p 67s and 8s. It fixes "most significant first"
pub worked : read_of (184 ∷ 30 ∷ 100 ∷ 128 ∷ 136 ∷ 40 ∷ 197 ∷ 20 ∷ 97 ∷ 167 ∷ 46 ∷ 192 ∷ [])
    ≡ sound_as (record {
      fields = record { how = 1; winner = 1; discarder = 3; riichi = 0; situation = 0; indicator = 30; winning = 25 };
      held = record { m = 1; melds = 1 ∷ 0 ∷ 0 ∷ 0 ∷ []; concealed = 4 ∷ 5 ∷ 6 ∷ 10 ∷ 10 ∷ 12 ∷ 13 ∷ 14 ∷ 23 ∷ 24 ∷ 0 ∷ 0 ∷ 0 ∷ [] };
    })
worked = table.5.read
