-- Two slips byte by byte: lines 1 and 9 of the table of hands (01), dealer 0, East, by what the table says of their scores.
use Rattle.std.specs.Prelude.{◌≡◌, refl, Bool, true, false, cond, ℕ, ◌<◌, ℤ, get_or}
use Rattle.std.proofs.Common.{◌∙◌, arith}
use mathlib.Core.List.{List, [], ◌∷◌, flat_map}
use Rattle.hand.specs.declared.Hand.{Hand}
use Rattle.hand_record.specs.Record.{record_of}
use Rattle.yaku.specs.Yaku.{is_yakuman}
use Rattle.score.specs.declared.Scored.{Scored}
use Rattle.score_table.specs.Table.{ron, tsumo, scored, Scores}
use Rattle.score_table.proofs.Claims.{lines}
use Rattle.text.specs.Text.{last_digits, digits_of, signed_of, score_text}
use Rattle.text.specs.Words.{bytes_of}
use Rattle.slip.specs.Line.{slip_line, labels}
use Rattle.slip.specs.Slip.{values_of, line_at, slip_text}
use Rattle.slip.proofs.laws.Score.{yakuman_zero, zero_yakuman}

pub record Worked : Type 0 where
  -- 1: "234567m 345p 678s 22s, closed, won by 8s. Seat 1 ron: 2,000."
  pub line_1 :
      slip_text (scored (ron 1 [] "234567m345p2267s" "8s"))
      ≡ flat_map bytes_of
      ("HAN                    2\n"
      ∷ "FU                    30\n"
      ∷ "SEAT 0                 0\n"
      ∷ "SEAT 1              2000\n"
      ∷ "SEAT 2                 0\n"
      ∷ "SEAT 3             -2000\n"
      ∷ [])
  -- 9: "111m 333p 555s 777s 99s, seat 1", "By tsumo: 8,000, 8,000, dealer 16,000."
  pub line_9 :
      slip_text (scored (tsumo 1 [] "111m333p5557799s" "7s"))
      ≡ flat_map bytes_of
      ("HAN              YAKUMAN\n"
      ∷ "FU                     0\n"
      ∷ "SEAT 0            -16000\n"
      ∷ "SEAT 1             32000\n"
      ∷ "SEAT 2             -8000\n"
      ∷ "SEAT 3             -8000\n"
      ∷ [])

-- the six values by h, fu and the changes
abbrev values_by : Bool → ℕ → ℕ → List ℤ → List (List ℕ)
values_by y h fu c =
    cond y (bytes_of "YAKUMAN") (digits_of h) ∷ cond y (digits_of 0) (digits_of fu) ∷ score_text c 0 ∷ score_text c 1 ∷ score_text c 2 ∷ score_text c 3 ∷ []

abbrev text_by : Bool → ℕ → ℕ → List ℤ → List ℕ
text_by y h fu c = flat_map (λ k. slip_line (get_or labels k []) (get_or (values_by y h fu c) k [])) (0 ∷ 1 ∷ 2 ∷ 3 ∷ 4 ∷ 5 ∷ [])

by_figures : (a : Scored) (y : Bool) (h fu : ℕ) (c : List ℤ) → is_yakuman a.yaku ≡ y → a.h.0 ≡ h → a.fu.0 ≡ fu → a.changes ≡ c
    → slip_text a ≡ text_by y h fu c
unfolding slip_text line_at values_of flat_map
by_figures a y h fu c ey eh ef ec = rw (ey, eh, ef, ec)

module _ (hand : Hand) {h fu : ℕ} {c : List ℤ} (t : Scores hand h fu c) where
  abbrev a : Scored
  a = scored hand

  -- of an accepted hand, by whether it has fu
  plain_slip : 0 < fu → slip_text a ≡ text_by false h fu c
  plain_slip l = by_figures a false h fu c (go (is_yakuman a.yaku) refl) t.has_h t.has_fu t.has_changes
    where
      go : (b : Bool) → is_yakuman a.yaku ≡ b → b ≡ false
      go true e = absurd (omega (arith, yakuman_zero (record_of hand) 0 0 e, t.has_fu))
      go false e = refl

  yakuman_slip : fu ≡ 0 → slip_text a ≡ text_by true h fu c
  yakuman_slip z =
      by_figures a true h fu c (zero_yakuman (record_of hand) 0 0 t.accepted (t.has_fu ∙ z))
      t.has_h t.has_fu t.has_changes

-- the slips of lines 1 and 9 of the table of hands
pub worked_slips : Worked
unfolding flat_map slip_line labels signed_of digits_of last_digits
worked_slips = record {
  line_1 = plain_slip _ lines.line_1 (omega arith);
  line_9 = yakuman_slip _ lines.line_9 refl;
}
