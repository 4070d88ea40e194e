-- The table keyed from another side (02, S-12): "moving winner, discarder and dealer on by the same number of seats".
use Rattle.std.specs.Prelude.{cond, List, ◌≡◌, ℕ, ◌+◌, ◌%◌, ◌<◌, pos, get_or}
use Rattle.hand.specs.declared.Fields.{Fields}
use Rattle.hand.specs.declared.Hand.{Hand}
use Rattle.hand.specs.Hand.{is_ron}
use Rattle.hand_record.specs.Record.{hand_of, read_of, record_of}
use Rattle.score.specs.declared.Scored.{Scored}

-- "on by the same number of seats": the seat n on from a seat
abbrev pub on : ℕ → ℕ → ℕ
on n seat = (seat + n) % 4

-- "moving winner, discarder and dealer on by the same number of seats": the dealer
abbrev pub rotated_dealer : ℕ → ℕ → ℕ
rotated_dealer n dealer = on n dealer

-- "moving winner, discarder" on by n; "a tsumo record's discarder stays 0"
abbrev pub rotated_fields : ℕ → Fields → Fields
rotated_fields n f = record {
  how = f.how;
  winner = on n f.winner;
  discarder = cond (is_ron f) (on n f.discarder) f.discarder;
  riichi = f.riichi;
  situation = f.situation;
  indicator = f.indicator;
  winning = f.winning;
}

-- the hand with them moved; its tiles stay
abbrev pub rotated_hand : ℕ → Hand → Hand
rotated_hand n h = record { fields = rotated_fields n h.fields; held = h.held }

-- the record of that hand
unfoldable pub rotated_record : ℕ → List ℕ → List ℕ
rotated_record n s = record_of (rotated_hand n (hand_of (read_of s)))

-- "moves the four changes on by that number and alters nothing else": x is the score of a record, y that of the rotated one
pub record RotatedScore (n : ℕ) (x y : Scored) : Type 0 where
  pub refusal : y.refusal ≡ x.refusal
  pub h : y.h ≡ x.h
  pub fu : y.fu ≡ x.fu
  pub items : y.items ≡ x.items
  pub yaku : y.yaku ≡ x.yaku
  pub tried : y.tried ≡ x.tried
  -- what a seat had, the seat n on has
  pub changes : (seat : ℕ) → seat < 4 → get_or y.changes (on n seat) (pos 0) ≡ get_or x.changes seat (pos 0)
