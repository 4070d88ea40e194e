-- Claims for lines 5 and 7 of the table of hands (01), byte by byte, dealer 0, East, computed; `won` has a hand as the table does
-- (`table/specs/Table.antt`).
use Rattle.std.specs.Prelude.{List, [], ◌∷◌, ◌≡◌, refl, ℕ}
use Rattle.std.proofs.Common.{sym, ◌∙◌}
use Rattle.hand.specs.declared.Hand.{Hand}
use Rattle.tiles.specs.Below.{all_below, any_below, count_below, sum_below}
use Rattle.tiles.specs.Kinds.{dora_of}
use Rattle.tiles.specs.Groups.{is_group, at_kind, uses}
use Rattle.tiles.specs.Tally.{tally_of}
use Rattle.hand.specs.Held.{meld_holds, in_melds, in_others, in_held, tile_over33, wrong_held, descends, over_four}
use Rattle.hand.specs.Hand.{in_concealed, in_hand, concealed_tally, hand_tally}
use Rattle.hand.specs.Refusals.{wrong_fields, in_record, wrong_situation, refusal_of}
use Rattle.hand_record.specs.Record.{head_of, held_by, hand_in, padding_of, answer_by, answer_in, read_of, widths, values_of, record_of}
use Rattle.reading.specs.Reading.{holds, is_seven_pairs, is_orphans}
use Rattle.reading.specs.search.Readings.{concat_map, is_empty, less, fits, without, passes, step, splits, placed_at, placed, paired, shaped, readings}
use Rattle.reading.specs.search.Folded.{folded}
use Rattle.yaku_basics.specs.Tests.{little_dragons, value_han, earns_wait, twins, in_three_suits, straight, has_yaochu, outside, concealed, kans}
use Rattle.yaku_basics.specs.Tests.{four_winds}
use Rattle.yaku_tiles.specs.OfTiles.{only, half_flush, flush, gates}
use Rattle.yaku.specs.Yaku.{pinfu, tests_of, is_yakuman, listed, yaku_of, has_yaku}
use Rattle.points.specs.Points.{plain, limit, ordinary, basic, hundreds, times_a, pays, gain, change, changes}
use Rattle.points_value.specs.Han.{yaku_han, han_of}
use Rattle.points_fu.specs.Fu.{triplet_fu, group_fu, added, rounded, regular_items, items_of, fu_of}
use Rattle.points_value.specs.Value.{value_of}
use Rattle.score_best.specs.search.Best.{beats, counted, none_of, keep_better_by, best_of}
use Rattle.score.specs.Named.{won_of, groups_of, ways_of, full_reading_of, worth}
use Rattle.score.specs.search.HandScore.{kept_of}
use Rattle.score_table.proofs.laws.Table.{by_kinds}
use Rattle.claim.specs.Judge.{judged_of}
use Rattle.claim.specs.search.Claimed.{codes_in, gain_of, padding_in, ascends, faulty_regular, faulty_in, reading_in, claimed_in}
use Rattle.claim.specs.search.Verdict.{strip, regularly, reads, weighed_as, verdict_of}
use Rattle.claim.specs.search.Judge.{passed_as, found_by, found_of}
use Rattle.claim.proofs.laws.Judged.{found_is_judged}

-- 5: "112233m 778899p 55s, seat 1 ron 5s: h 3, fu 40, 5,200."
abbrev pub five : Hand
five = by_kinds 1 1 3 22 0 (0 ∷ 0 ∷ 0 ∷ 0 ∷ []) (0 ∷ 0 ∷ 1 ∷ 1 ∷ 2 ∷ 2 ∷ 15 ∷ 15 ∷ 16 ∷ 16 ∷ 17 ∷ 17 ∷ 22 ∷ [])

-- 7: "Chi 123m, 456p 789s 234s 99p, seat 1 ron 9s: 7."
abbrev pub seven : Hand
seven = by_kinds 1 1 3 26 1 (0 ∷ 0 ∷ 0 ∷ 0 ∷ []) (12 ∷ 13 ∷ 14 ∷ 17 ∷ 17 ∷ 19 ∷ 20 ∷ 21 ∷ 24 ∷ 25 ∷ 0 ∷ 0 ∷ 0 ∷ [])

-- what a claim for a hand is answered
pub record Answered (hand : Hand) (claim : List ℕ) (refusal verdict : ℕ) : Type 0 where
  pub told : judged_of (record_of hand) claim 0 0 ≡ record { refusal = refusal; verdict = verdict }

pub record Worked : Type 0 where
  -- pair 5s (22), groups 123m (0) twice and 789p (15) twice, place 0, gain 5,200; and with place 1, which has no 5s
  pub accepted : Answered five (22 ∷ 0 ∷ 0 ∷ 120 ∷ 240 ∷ 20 ∷ 80 ∷ []) 0 0
  pub one : Answered five (22 ∷ 0 ∷ 0 ∷ 120 ∷ 242 ∷ 20 ∷ 80 ∷ []) 0 1
  -- pair 9p (17), groups 456p (12), 234s (19), 789s (24), place 3, gain 1,000
  pub two : Answered seven (17 ∷ 24 ∷ 76 ∷ 195 ∷ 1 ∷ 244 ∷ 0 ∷ []) 0 2
  -- seven pairs for 1,700, and for its 1,600; orphans for 1,600, and seven pairs of a hand with a meld
  pub three : Answered five (64 ∷ 212 ∷ 128 ∷ []) 0 3
  pub four : Answered five (64 ∷ 200 ∷ 0 ∷ []) 0 4
  pub orphans : Answered five (128 ∷ 200 ∷ 0 ∷ []) 0 1
  pub melds : Answered seven (64 ∷ 200 ∷ 0 ∷ []) 0 1
  -- "shape 3", "a padding bit set", "descending codes" (0, 15, 0, 15), "a place over 4 − m" (5), "another length"
  pub shape_3 : Answered five (192 ∷ 200 ∷ 0 ∷ []) 22 0
  pub padding : Answered five (64 ∷ 200 ∷ 1 ∷ []) 22 0
  pub descending : Answered five (22 ∷ 0 ∷ 60 ∷ 0 ∷ 240 ∷ 20 ∷ 80 ∷ []) 22 0
  pub place : Answered five (22 ∷ 0 ∷ 0 ∷ 120 ∷ 250 ∷ 20 ∷ 80 ∷ []) 22 0
  pub short : Answered five (64 ∷ 200 ∷ []) 22 0

-- an answer is what the code finds
by : (hand : Hand) (claim : List ℕ) (refusal verdict : ℕ) → found_of (record_of hand) claim 0 0 ≡ record { refusal = refusal; verdict = verdict }
    → Answered hand claim refusal verdict
by hand claim refusal verdict e = record { told = sym (found_is_judged (record_of hand) claim 0 0) ∙ e }

-- claims for hands of the table
pub worked_claims : Worked
unfolding widths values_of record_of all_below any_below count_below sum_below dora_of is_group at_kind uses tally_of meld_holds in_melds in_others in_held in_concealed in_hand
    concealed_tally hand_tally tile_over33 wrong_held wrong_fields descends in_record over_four wrong_situation refusal_of head_of held_by
    hand_in padding_of answer_by answer_in read_of holds is_seven_pairs is_orphans concat_map is_empty less fits without passes step splits placed_at placed paired
    shaped readings folded little_dragons value_han earns_wait pinfu twins in_three_suits straight has_yaochu outside concealed kans four_winds only half_flush flush
    gates tests_of is_yakuman listed yaku_of has_yaku plain limit ordinary basic hundreds times_a pays gain change changes yaku_han han_of triplet_fu group_fu
    regular_items added rounded items_of fu_of value_of beats counted none_of keep_better_by best_of won_of groups_of ways_of full_reading_of worth kept_of codes_in
    gain_of padding_in ascends faulty_regular faulty_in reading_in claimed_in strip regularly reads weighed_as verdict_of passed_as found_by found_of
worked_claims = record {
  accepted = by _ _ _ _ refl;
  one = by _ _ _ _ refl;
  two = by _ _ _ _ refl;
  three = by _ _ _ _ refl;
  four = by _ _ _ _ refl;
  orphans = by _ _ _ _ refl;
  melds = by _ _ _ _ refl;
  shape_3 = by _ _ _ _ refl;
  padding = by _ _ _ _ refl;
  descending = by _ _ _ _ refl;
  place = by _ _ _ _ refl;
  short = by _ _ _ _ refl;
}
