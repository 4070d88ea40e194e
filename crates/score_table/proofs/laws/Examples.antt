-- Hands, by their kinds, whose readings are counted (02, S-4), and the items of fu of the table's hands (02, S-3), computed.
use Rattle.std.specs.Prelude.{◌≡◌, refl, List, [], ◌∷◌, ◌++◌, ℕ, get_or}
use Rattle.std.proofs.Common.{sym, ap, ◌∙◌}
use Rattle.hand.specs.declared.Hand.{Hand}
use Rattle.tiles.specs.Below.{tabulate, all_below, any_below, count_below, sum_below}
use Rattle.tiles.specs.Kinds.{dora_of}
use Rattle.tiles.specs.Groups.{is_group, at_kind, uses}
use Rattle.tiles.specs.Tally.{tally_of}
use Rattle.hand.specs.Held.{meld_holds, in_melds, in_others, in_held, tile_over33, wrong_held, descends, over_four}
use Rattle.hand.specs.Hand.{in_concealed, in_hand, concealed_tally, hand_tally}
use Rattle.hand.specs.Refusals.{wrong_fields, in_record, wrong_situation, refusal_of}
use Rattle.hand_record.specs.Record.{head_of, held_by, hand_in, padding_of, answer_by, answer_in, read_of, widths, values_of, record_of}
use Rattle.reading.specs.Reading.{holds, is_seven_pairs, is_orphans}
use Rattle.reading.specs.search.Readings.{concat_map, is_empty, less, fits, without, passes, step, splits, placed_at, placed, paired, shaped, readings}
use Rattle.reading.specs.search.Folded.{folded}
use Rattle.yaku_basics.specs.Tests.{little_dragons, value_han, earns_wait, twins, in_three_suits, straight, has_yaochu, outside, concealed, kans}
use Rattle.yaku_basics.specs.Tests.{four_winds}
use Rattle.yaku_tiles.specs.OfTiles.{only, half_flush, flush, gates}
use Rattle.yaku.specs.Yaku.{pinfu, tests_of, is_yakuman, listed, yaku_of, has_yaku}
use Rattle.points.specs.Points.{plain, limit, ordinary, basic, hundreds, times_a, pays, gain}
use Rattle.points_value.specs.Han.{yaku_han, han_of}
use Rattle.points_fu.specs.declared.Items.{Items}
use Rattle.points_fu.specs.Fu.{fu, triplet_fu, group_fu, added, rounded, regular_items, items_of, fu_of}
use Rattle.points_value.specs.Value.{value_of}
use Rattle.score_best.specs.search.Best.{beats, counted, none_of, keep_better_by, best_of}
use Rattle.score.specs.declared.Scored.{Scored}
use Rattle.score.specs.Named.{won_of, groups_of, ways_of, full_reading_of, worth}
use Rattle.score.specs.search.HandScore.{hand_score_by, kept_of, hand_score_of, found_by, found_of}
use Rattle.score.proofs.laws.HandScore.{found_is_score}
use Rattle.score.specs.Score.{score_of}
use Rattle.score_table.proofs.laws.Table.{by_kinds}

-- "how many readings it tried" of a hand's record
pub record Tries (hand : Hand) (n : ℕ) : Type 0 where
  pub tried : (score_of (record_of hand) 0 0).tried ≡ n

-- how many readings of these hands are tried
pub record Counts : Type 0 where
  -- 111222333m 789s 99p, seat 1 ron 1m: "each place in equal groups", three of 123m, and one of 111m
  pub equal_groups : Tries (by_kinds 1 1 3 0 0 (0 ∷ 0 ∷ 0 ∷ 0 ∷ []) (0 ∷ 0 ∷ 1 ∷ 1 ∷ 1 ∷ 2 ∷ 2 ∷ 2 ∷ 17 ∷ 17 ∷ 24 ∷ 25 ∷ 26 ∷ [])) 4
  -- 111 2222 3333 444m, "a closed one-suit hand", seat 1 ron 2m: all
  pub one_suit : Tries (by_kinds 1 1 3 1 0 (0 ∷ 0 ∷ 0 ∷ 0 ∷ []) (0 ∷ 0 ∷ 0 ∷ 1 ∷ 1 ∷ 1 ∷ 2 ∷ 2 ∷ 2 ∷ 2 ∷ 3 ∷ 3 ∷ 3 ∷ [])) 12
  -- 11 222 333 444 555m, seat 1 tsumo 2m: "up to" the four triplets, "it included", the fifth of eight; by ron they are no yakuman
  pub up_to_yakuman : Tries (by_kinds 0 1 0 1 0 (0 ∷ 0 ∷ 0 ∷ 0 ∷ []) (0 ∷ 0 ∷ 1 ∷ 1 ∷ 2 ∷ 2 ∷ 2 ∷ 3 ∷ 3 ∷ 3 ∷ 4 ∷ 4 ∷ 4 ∷ [])) 5
  pub all_by_ron : Tries (by_kinds 1 1 3 1 0 (0 ∷ 0 ∷ 0 ∷ 0 ∷ []) (0 ∷ 0 ∷ 1 ∷ 1 ∷ 2 ∷ 2 ∷ 2 ∷ 3 ∷ 3 ∷ 3 ∷ 4 ∷ 4 ∷ 4 ∷ [])) 8

-- "base, closed ron, pair, each of the four groups .., wait, tsumo, and what rounding added" (02, S-3): the ten numbers
abbrev ten_of : Items → List ℕ
ten_of i = i.base.0 ∷ i.ron.0 ∷ i.pair.0 ∷ (tabulate 4 0 (λ k. (get_or i.group k (fu 0)).0) ++ (i.wait.0 ∷ i.tsumo.0 ∷ i.rounding.0 ∷ []))

pub record Earns (hand : Hand) (ten : List ℕ) : Type 0 where
  pub items : ten_of (score_of (record_of hand) 0 0).items ≡ ten

-- the items of lines 1, 2, 5, 6 and 8 of the table
pub record Earned : Type 0 where
  pub line_1 : Earns (by_kinds 1 1 3 25 0 (0 ∷ 0 ∷ 0 ∷ 0 ∷ []) (1 ∷ 2 ∷ 3 ∷ 4 ∷ 5 ∷ 6 ∷ 11 ∷ 12 ∷ 13 ∷ 19 ∷ 19 ∷ 23 ∷ 24 ∷ []))
      (20 ∷ 10 ∷ 0 ∷ 0 ∷ 0 ∷ 0 ∷ 0 ∷ 0 ∷ 0 ∷ 0 ∷ [])
  pub line_2 : Earns (by_kinds 0 1 0 25 0 (0 ∷ 0 ∷ 0 ∷ 0 ∷ []) (1 ∷ 2 ∷ 3 ∷ 4 ∷ 5 ∷ 6 ∷ 11 ∷ 12 ∷ 13 ∷ 19 ∷ 19 ∷ 23 ∷ 24 ∷ []))
      (20 ∷ 0 ∷ 0 ∷ 0 ∷ 0 ∷ 0 ∷ 0 ∷ 0 ∷ 0 ∷ 0 ∷ [])
  pub line_5 : Earns (by_kinds 1 1 3 22 0 (0 ∷ 0 ∷ 0 ∷ 0 ∷ []) (0 ∷ 0 ∷ 1 ∷ 1 ∷ 2 ∷ 2 ∷ 15 ∷ 15 ∷ 16 ∷ 16 ∷ 17 ∷ 17 ∷ 22 ∷ []))
      (20 ∷ 10 ∷ 0 ∷ 0 ∷ 0 ∷ 0 ∷ 0 ∷ 2 ∷ 0 ∷ 8 ∷ [])
  pub line_6 : Earns (by_kinds 1 1 3 25 1 (1 ∷ 0 ∷ 0 ∷ 0 ∷ []) (4 ∷ 5 ∷ 6 ∷ 10 ∷ 10 ∷ 12 ∷ 13 ∷ 14 ∷ 23 ∷ 24 ∷ 0 ∷ 0 ∷ 0 ∷ []))
      (20 ∷ 0 ∷ 0 ∷ 0 ∷ 0 ∷ 0 ∷ 0 ∷ 0 ∷ 0 ∷ 10 ∷ [])
  pub line_8 : Earns (by_kinds 1 1 3 24 0 (0 ∷ 0 ∷ 0 ∷ 0 ∷ []) (0 ∷ 0 ∷ 0 ∷ 11 ∷ 11 ∷ 11 ∷ 22 ∷ 22 ∷ 22 ∷ 24 ∷ 24 ∷ 26 ∷ 26 ∷ []))
      (20 ∷ 10 ∷ 0 ∷ 8 ∷ 4 ∷ 4 ∷ 2 ∷ 0 ∷ 0 ∷ 2 ∷ [])

-- the count of a hand is that of what the search finds
tries : (hand : Hand) (n : ℕ) → (found_of (record_of hand) 0 0).tried ≡ n → Tries hand n
tries hand n e = record { tried = ap (λ (x : Scored). x.tried) (sym (found_is_score (record_of hand) 0 0)) ∙ e }

earns : (hand : Hand) (ten : List ℕ) → ten_of (found_of (record_of hand) 0 0).items ≡ ten → Earns hand ten
earns hand ten e = record { items = ap (λ (x : Scored). ten_of x.items) (sym (found_is_score (record_of hand) 0 0)) ∙ e }

-- hands whose readings are counted
pub counts : Counts
unfolding widths values_of record_of all_below any_below count_below sum_below dora_of is_group at_kind uses tally_of meld_holds in_melds in_others in_held in_concealed in_hand
    concealed_tally hand_tally tile_over33 wrong_held wrong_fields descends in_record over_four wrong_situation refusal_of head_of held_by
    hand_in padding_of answer_by answer_in read_of holds is_seven_pairs is_orphans concat_map is_empty less fits without passes step splits placed_at placed paired shaped readings
    folded little_dragons value_han earns_wait pinfu twins in_three_suits straight has_yaochu outside concealed kans four_winds only half_flush flush gates
    tests_of is_yakuman listed yaku_of has_yaku plain limit ordinary basic hundreds times_a pays gain yaku_han han_of triplet_fu group_fu regular_items added
    rounded items_of fu_of value_of beats counted none_of keep_better_by best_of won_of groups_of ways_of full_reading_of worth hand_score_by kept_of hand_score_of found_by
    found_of
counts = record {
  equal_groups = tries _ _ refl;
  one_suit = tries _ _ refl;
  up_to_yakuman = tries _ _ refl;
  all_by_ron = tries _ _ refl;
}

pub items_earned : Earned
unfolding widths values_of record_of all_below any_below count_below sum_below dora_of is_group at_kind uses tally_of meld_holds in_melds in_others in_held in_concealed in_hand
    concealed_tally hand_tally tile_over33 wrong_held wrong_fields descends in_record over_four wrong_situation refusal_of head_of held_by
    hand_in padding_of answer_by answer_in read_of holds is_seven_pairs is_orphans concat_map is_empty less fits without passes step splits placed_at placed paired shaped readings
    folded little_dragons value_han earns_wait pinfu twins in_three_suits straight has_yaochu outside concealed kans four_winds only half_flush flush gates
    tests_of is_yakuman listed yaku_of has_yaku plain limit ordinary basic hundreds times_a pays gain yaku_han han_of triplet_fu group_fu regular_items added
    rounded items_of fu_of value_of beats counted none_of keep_better_by best_of won_of groups_of ways_of full_reading_of worth hand_score_by kept_of hand_score_of found_by
    found_of
items_earned = record {
  line_1 = earns _ _ refl;
  line_2 = earns _ _ refl;
  line_5 = earns _ _ refl;
  line_6 = earns _ _ refl;
  line_8 = earns _ _ refl;
}
