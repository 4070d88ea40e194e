-- The table of hands, computed.
use Rattle.std.specs.Prelude.{◌≡◌, refl, List, [], ◌∷◌, ℕ, ℤ, pos, neg_ℤ}
use Rattle.std.proofs.Common.{sym, ap, ◌∙◌}
use Rattle.hand.specs.declared.Hand.{Hand}
use Rattle.tiles.specs.Below.{all_below, any_below, count_below, sum_below}
use Rattle.tiles.specs.Kinds.{dora_of}
use Rattle.tiles.specs.Groups.{is_group, at_kind, uses}
use Rattle.tiles.specs.Tally.{tally_of}
use Rattle.hand.specs.Held.{meld_holds, in_melds, in_others, in_held, tile_over33, wrong_held, descends, over_four}
use Rattle.hand.specs.Hand.{in_concealed, in_hand, concealed_tally, hand_tally}
use Rattle.hand.specs.Refusals.{wrong_fields, in_record, wrong_situation, refusal_of}
use Rattle.hand_record.specs.Record.{head_of, held_by, hand_in, padding_of, answer_by, answer_in, read_of, widths, values_of, record_of}
use Rattle.reading.specs.Reading.{holds, is_seven_pairs, is_orphans}
use Rattle.reading.specs.search.Readings.{concat_map, is_empty, less, fits, without, passes, step, splits, placed_at, placed, paired, shaped, readings}
use Rattle.reading.specs.search.Folded.{folded}
use Rattle.yaku_basics.specs.Tests.{little_dragons, value_han, earns_wait, twins, in_three_suits, straight, has_yaochu, outside, concealed, kans}
use Rattle.yaku_basics.specs.Tests.{four_winds}
use Rattle.yaku_tiles.specs.OfTiles.{only, half_flush, flush, gates}
use Rattle.yaku.specs.Yaku.{pinfu, tests_of, is_yakuman, listed, yaku_of, has_yaku}
use Rattle.points.specs.Points.{plain, limit, ordinary, basic, hundreds, times_a, pays, gain, change, changes}
use Rattle.points_value.specs.Han.{yaku_han, han_of}
use Rattle.points_fu.specs.Fu.{triplet_fu, group_fu, added, rounded, regular_items, items_of, fu_of}
use Rattle.points_value.specs.Value.{value_of}
use Rattle.score_best.specs.search.Best.{beats, counted, none_of, keep_better_by, best_of}
use Rattle.score.specs.declared.Scored.{Scored}
use Rattle.score.specs.Named.{refused_with, won_of, groups_of, ways_of, full_reading_of, worth}
use Rattle.score.specs.search.HandScore.{hand_score_by, kept_of, hand_score_of, found_by, found_of}
use Rattle.score.proofs.laws.HandScore.{found_is_score}
use Rattle.score_table.specs.Table.{kinds_from, scored, Scores, Lines}

-- a hand by its kinds: how, winner, discarder, winning tile, m, melds, other concealed tiles
abbrev pub by_kinds : ℕ → ℕ → ℕ → ℕ → ℕ → List ℕ → List ℕ → Hand
by_kinds how winner discarder winning m melds concealed =
    record {
      fields = record { how = how; winner = winner; discarder = discarder; riichi = 0; situation = 0; indicator = 30; winning = winning };
      held = record { m = m; melds = melds; concealed = concealed };
    }

-- a line holds of the score where it holds of what the search finds
abbrev Figures : Type 0
Figures = ℕ × ℕ × ℕ × List ℤ

abbrev figures : Scored → Figures
figures a = (a.refusal, a.h.0, a.fu.0, a.changes)

line : (k hand : Hand) (h fu : ℕ) (c : List ℤ) → hand ≡ k → ◌≡◌ {A = Figures} (figures (found_of (record_of k) 0 0)) (0, h, fu, c) → Scores hand h fu c
line k hand h fu c w e =
    let same : ◌≡◌ {A = Figures} (figures (scored hand)) (0, h, fu, c)
    = ap (λ (x : Hand). figures (scored x)) w ∙ ap figures (sym (found_is_score (record_of k) 0 0)) ∙ e in
    record {
      accepted = ap (λ (x : Figures). x.0) same;
      has_h = ap (λ (x : Figures). x.1) same;
      has_fu = ap (λ (x : Figures). x.2) same;
      has_changes = ap (λ (x : Figures). x.3) same;
    }

refused : (k hand : Hand) (n : ℕ) → hand ≡ k → found_of (record_of k) 0 0 ≡ refused_with n → scored hand ≡ refused_with n
refused k hand n w e = ap scored w ∙ sym (found_is_score (record_of k) 0 0) ∙ e

-- the hands of the table by their kinds, and what the search finds of them
abbrev one : Hand
one = by_kinds 1 1 3 25 0 (0 ∷ 0 ∷ 0 ∷ 0 ∷ []) (1 ∷ 2 ∷ 3 ∷ 4 ∷ 5 ∷ 6 ∷ 11 ∷ 12 ∷ 13 ∷ 19 ∷ 19 ∷ 23 ∷ 24 ∷ [])

abbrev two : Hand
two = by_kinds 0 1 0 25 0 (0 ∷ 0 ∷ 0 ∷ 0 ∷ []) (1 ∷ 2 ∷ 3 ∷ 4 ∷ 5 ∷ 6 ∷ 11 ∷ 12 ∷ 13 ∷ 19 ∷ 19 ∷ 23 ∷ 24 ∷ [])

abbrev three : Hand
three = by_kinds 1 0 3 25 0 (0 ∷ 0 ∷ 0 ∷ 0 ∷ []) (1 ∷ 2 ∷ 3 ∷ 4 ∷ 5 ∷ 6 ∷ 11 ∷ 12 ∷ 13 ∷ 19 ∷ 19 ∷ 23 ∷ 24 ∷ [])

abbrev four : Hand
four = by_kinds 0 1 0 26 0 (0 ∷ 0 ∷ 0 ∷ 0 ∷ []) (0 ∷ 0 ∷ 0 ∷ 1 ∷ 1 ∷ 1 ∷ 2 ∷ 2 ∷ 2 ∷ 17 ∷ 17 ∷ 24 ∷ 25 ∷ [])

abbrev five : Hand
five = by_kinds 1 1 3 22 0 (0 ∷ 0 ∷ 0 ∷ 0 ∷ []) (0 ∷ 0 ∷ 1 ∷ 1 ∷ 2 ∷ 2 ∷ 15 ∷ 15 ∷ 16 ∷ 16 ∷ 17 ∷ 17 ∷ 22 ∷ [])

abbrev six : Hand
six = by_kinds 1 1 3 25 1 (1 ∷ 0 ∷ 0 ∷ 0 ∷ []) (4 ∷ 5 ∷ 6 ∷ 10 ∷ 10 ∷ 12 ∷ 13 ∷ 14 ∷ 23 ∷ 24 ∷ 0 ∷ 0 ∷ 0 ∷ [])

abbrev seven : Hand
seven = by_kinds 1 1 3 26 1 (0 ∷ 0 ∷ 0 ∷ 0 ∷ []) (12 ∷ 13 ∷ 14 ∷ 17 ∷ 17 ∷ 19 ∷ 20 ∷ 21 ∷ 24 ∷ 25 ∷ 0 ∷ 0 ∷ 0 ∷ [])

abbrev eight : Hand
eight = by_kinds 1 1 3 24 0 (0 ∷ 0 ∷ 0 ∷ 0 ∷ []) (0 ∷ 0 ∷ 0 ∷ 11 ∷ 11 ∷ 11 ∷ 22 ∷ 22 ∷ 22 ∷ 24 ∷ 24 ∷ 26 ∷ 26 ∷ [])

abbrev nine : Hand
nine = by_kinds 0 1 0 24 0 (0 ∷ 0 ∷ 0 ∷ 0 ∷ []) (0 ∷ 0 ∷ 0 ∷ 11 ∷ 11 ∷ 11 ∷ 22 ∷ 22 ∷ 22 ∷ 24 ∷ 24 ∷ 26 ∷ 26 ∷ [])

abbrev twelve : Hand
twelve = by_kinds 1 1 3 16 0 (0 ∷ 0 ∷ 0 ∷ 0 ∷ []) (0 ∷ 0 ∷ 0 ∷ 0 ∷ 3 ∷ 3 ∷ 6 ∷ 6 ∷ 10 ∷ 10 ∷ 13 ∷ 13 ∷ 16 ∷ [])

abbrev Finds : Hand → Figures → Type 0
Finds k f = figures (found_of (record_of k) 0 0) ≡ f

record Found : Type 0 where
  line_1 : Finds one (0, 2, 30, pos 0 ∷ pos 2000 ∷ pos 0 ∷ neg_ℤ (pos 2000) ∷ [])
  line_2 : Finds two (0, 3, 20, neg_ℤ (pos 1300) ∷ pos 2700 ∷ neg_ℤ (pos 700) ∷ neg_ℤ (pos 700) ∷ [])
  line_3 : Finds three (0, 2, 30, pos 2900 ∷ pos 0 ∷ pos 0 ∷ neg_ℤ (pos 2900) ∷ [])
  line_4 : Finds four (0, 6, 20, neg_ℤ (pos 6000) ∷ pos 12000 ∷ neg_ℤ (pos 3000) ∷ neg_ℤ (pos 3000) ∷ [])
  line_5 : Finds five (0, 3, 40, pos 0 ∷ pos 5200 ∷ pos 0 ∷ neg_ℤ (pos 5200) ∷ [])
  line_6 : Finds six (0, 1, 30, pos 0 ∷ pos 1000 ∷ pos 0 ∷ neg_ℤ (pos 1000) ∷ [])
  line_7 : found_of (record_of seven) 0 0 ≡ refused_with 7
  line_8 : Finds eight (0, 4, 50, pos 0 ∷ pos 8000 ∷ pos 0 ∷ neg_ℤ (pos 8000) ∷ [])
  line_9 : Finds nine (0, 0, 0, neg_ℤ (pos 16000) ∷ pos 32000 ∷ neg_ℤ (pos 8000) ∷ neg_ℤ (pos 8000) ∷ [])
  line_12 : found_of (record_of twelve) 0 0 ≡ refused_with 6

found : Found
unfolding widths values_of record_of all_below any_below count_below sum_below dora_of is_group at_kind uses tally_of meld_holds in_melds in_others in_held in_concealed in_hand
    concealed_tally hand_tally tile_over33 wrong_held wrong_fields descends in_record over_four wrong_situation refusal_of head_of held_by
    hand_in padding_of answer_by answer_in read_of holds is_seven_pairs is_orphans concat_map is_empty less fits without passes step splits placed_at placed paired shaped readings
    folded little_dragons value_han earns_wait pinfu twins in_three_suits straight has_yaochu outside concealed kans four_winds only half_flush flush gates
    tests_of is_yakuman listed yaku_of has_yaku plain limit ordinary basic hundreds times_a pays gain change changes yaku_han han_of triplet_fu group_fu
    regular_items added rounded items_of fu_of value_of beats counted none_of keep_better_by best_of won_of groups_of ways_of full_reading_of worth hand_score_by kept_of
    hand_score_of found_by found_of
found = record { line_1 = refl; line_2 = refl; line_3 = refl; line_4 = refl; line_5 = refl; line_6 = refl; line_7 = refl; line_8 = refl; line_9 = refl; line_12 = refl }

pub lines : Lines
unfolding kinds_from basic ordinary plain limit gain pays hundreds times_a
lines = record {
  line_1 = line one _ _ _ _ refl found.line_1;
  line_2 = line two _ _ _ _ refl found.line_2;
  line_3 = line three _ _ _ _ refl found.line_3;
  line_4 = line four _ _ _ _ refl found.line_4;
  line_5 = line five _ _ _ _ refl found.line_5;
  line_6 = line six _ _ _ _ refl found.line_6;
  line_7 = refused seven _ _ refl found.line_7;
  line_8 = line eight _ _ _ _ refl found.line_8;
  line_9 = line nine _ _ _ _ refl found.line_9;
  line_10 = (refl, refl);
  line_11 = λ fu. (refl, refl, refl, refl);
  line_12 = refused twelve _ _ refl found.line_12;
}
