-- Computed: that all green has to be left out, since such a hand scores otherwise once its suits are renamed; and that green tiles alone are not left out.
use Rattle.std.specs.Prelude.{true, false, List, [], ◌∷◌, ◌≡◌, refl, ℕ, ℤ, pos, negsuc, get_or}
use Rattle.std.proofs.Common.{sym, ap, ◌∙◌, arith}
use Rattle.hand.specs.declared.Hand.{Hand}
use Rattle.tiles.specs.Below.{all_below, any_below, count_below, sum_below}
use Rattle.tiles.specs.Kinds.{dora_of}
use Rattle.tiles.specs.Groups.{is_group, at_kind, uses}
use Rattle.tiles.specs.Tally.{tally_of}
use Rattle.hand.specs.Held.{meld_holds, in_melds, in_others, in_held, tile_over33, wrong_held, descends, over_four}
use Rattle.hand.specs.Hand.{in_concealed, in_hand, concealed_tally, hand_tally}
use Rattle.hand.specs.Refusals.{wrong_fields, in_record, wrong_situation, refusal_of}
use Rattle.hand_record.specs.Record.{head_of, held_by, hand_in, padding_of, answer_by, answer_in, read_of, widths, values_of, record_of}
use Rattle.reading.specs.Reading.{holds, is_seven_pairs, is_orphans}
use Rattle.reading.specs.search.Readings.{concat_map, is_empty, less, fits, without, passes, step, splits, placed_at, placed, paired, shaped, readings}
use Rattle.reading.specs.search.Folded.{folded}
use Rattle.yaku_basics.specs.Tests.{little_dragons, value_han, earns_wait, twins, in_three_suits, straight, has_yaochu, outside, concealed, kans}
use Rattle.yaku_basics.specs.Tests.{four_winds}
use Rattle.yaku_tiles.specs.OfTiles.{only, is_green, half_flush, flush, gates}
use Rattle.yaku.specs.Yaku.{pinfu, tests_of, is_yakuman, listed, yaku_of, has_yaku}
use Rattle.points.specs.Points.{plain, limit, ordinary, basic, hundreds, times_a, pays, gain, change, changes}
use Rattle.points_value.specs.Han.{yaku_han, han_of}
use Rattle.points_fu.specs.Fu.{triplet_fu, group_fu, added, rounded, regular_items, items_of, fu_of}
use Rattle.points_value.specs.Value.{value_of}
use Rattle.score_best.specs.search.Best.{beats, counted, none_of, keep_better_by, best_of}
use Rattle.score.specs.Named.{won_of, groups_of, ways_of, full_reading_of, worth}
use Rattle.score.specs.search.HandScore.{hand_score_by, kept_of, hand_score_of, found_by, found_of}
use Rattle.score.proofs.laws.HandScore.{found_is_score}
use Rattle.score.specs.declared.Scored.{Scored}
use Rattle.score.specs.Score.{score_of}
use Rattle.symmetry.specs.Renamed.{IsRenaming, renamed, renamed_meld, is_all_green}
use Rattle.symmetry.proofs.laws.Sorted.{put, in_order}
use Rattle.symmetry.proofs.laws.Renamed.{renamed_held, renamed_record}
use Rattle.symmetry.proofs.laws.Kinds.{renaming_of}

-- pon 222s, 333444666s 8s, seat 1 ron 8s from seat 3, indicator North
abbrev pub green_hand : Hand
green_hand = record {
  fields = record { how = 1; winner = 1; discarder = 3; riichi = 0; situation = 0; indicator = 30; winning = 25 };
  held = record { m = 1; melds = 83 ∷ 0 ∷ 0 ∷ 0 ∷ []; concealed = 20 ∷ 20 ∷ 20 ∷ 21 ∷ 21 ∷ 21 ∷ 23 ∷ 23 ∷ 23 ∷ 25 ∷ 0 ∷ 0 ∷ 0 ∷ [] };
}

-- 2222334 66888s and hatsu, which are green and have no reading, seat 1 ron hatsu from seat 3, indicator North
abbrev pub no_reading_hand : Hand
no_reading_hand = record {
  fields = record { how = 1; winner = 1; discarder = 3; riichi = 0; situation = 0; indicator = 30; winning = 32 };
  held = record { m = 0; melds = 0 ∷ 0 ∷ 0 ∷ 0 ∷ []; concealed = 19 ∷ 19 ∷ 19 ∷ 19 ∷ 20 ∷ 20 ∷ 21 ∷ 23 ∷ 23 ∷ 25 ∷ 25 ∷ 25 ∷ 32 ∷ [] };
}

-- man and sou change places
abbrev pub man_for_sou : ℕ → ℕ
man_for_sou s = get_or (2 ∷ 1 ∷ 0 ∷ []) s 0

-- "provided the hand is all green (yaku 34) neither before nor after": this one is, and is paid 32,000 before and 16,000 after
pub record GreenDiffers : Type 0 where
  pub renaming : IsRenaming man_for_sou
  pub green : is_all_green (score_of (record_of green_hand) 0 0) ≡ true
  pub before : (score_of (record_of green_hand) 0 0).changes ≡ pos 0 ∷ pos 32000 ∷ pos 0 ∷ negsuc 31999 ∷ []
  pub after : (score_of (renamed_record man_for_sou (record_of green_hand)) 0 0).changes ≡ pos 0 ∷ pos 16000 ∷ pos 0 ∷ negsuc 15999 ∷ []

-- the changes hold of the score where they hold of what the search finds
told : (s : List ℕ) (changes : List ℤ) → (found_of s 0 0).changes ≡ changes → (score_of s 0 0).changes ≡ changes
told s changes e = ap (λ (x : Scored). x.changes) (sym (found_is_score s 0 0)) ∙ e

-- "provided the hand is all green (yaku 34) neither before nor after": without this the score may differ
pub green_differs : GreenDiffers
unfolding renamed renamed_meld put in_order renamed_held renamed_record widths values_of record_of all_below any_below count_below sum_below dora_of is_group at_kind
    uses tally_of meld_holds in_melds in_others in_held in_concealed in_hand concealed_tally hand_tally tile_over33 wrong_held wrong_fields descends in_record over_four
    wrong_situation refusal_of head_of held_by hand_in padding_of answer_by answer_in read_of holds is_seven_pairs is_orphans concat_map is_empty less fits without passes
    step splits placed_at placed paired shaped readings folded little_dragons value_han earns_wait pinfu twins in_three_suits straight has_yaochu outside concealed
    kans four_winds only half_flush flush gates tests_of is_yakuman listed yaku_of has_yaku plain limit ordinary basic hundreds times_a pays gain change changes
    yaku_han han_of triplet_fu group_fu regular_items added rounded items_of fu_of value_of beats counted none_of keep_better_by best_of won_of groups_of ways_of
    full_reading_of worth hand_score_by kept_of hand_score_of found_by found_of
green_differs = record {
  renaming = renaming_of 2 1 0 (omega arith) (omega arith) (omega arith) (λ e. omega arith) (λ e. omega arith) (λ e. omega arith);
  green = ap is_all_green (sym (found_is_score (record_of green_hand) 0 0)) ∙ refl;
  before = told (record_of green_hand) _ refl;
  after = told (renamed_record man_for_sou (record_of green_hand)) _ refl;
}

-- "provided the hand is all green (yaku 34) neither before nor after": green tiles without a reading have no yaku 34, so the theorem is about them too
pub record GreenNoReading : Type 0 where
  pub tiles : only (hand_tally no_reading_hand) is_green ≡ true
  pub refusal : (score_of (record_of no_reading_hand) 0 0).refusal ≡ 6
  pub before : is_all_green (score_of (record_of no_reading_hand) 0 0) ≡ false
  pub after : is_all_green (score_of (renamed_record man_for_sou (record_of no_reading_hand)) 0 0) ≡ false

pub green_no_reading : GreenNoReading
unfolding renamed renamed_meld put in_order renamed_held renamed_record widths values_of record_of all_below any_below count_below sum_below dora_of is_group at_kind
    uses tally_of meld_holds in_melds in_others in_held in_concealed in_hand concealed_tally hand_tally tile_over33 wrong_held wrong_fields descends in_record over_four
    wrong_situation refusal_of head_of held_by hand_in padding_of answer_by answer_in read_of holds is_seven_pairs is_orphans concat_map is_empty less fits without passes
    step splits placed_at placed paired shaped readings folded little_dragons value_han earns_wait pinfu twins in_three_suits straight has_yaochu outside concealed
    kans four_winds only half_flush flush gates tests_of is_yakuman listed yaku_of has_yaku plain limit ordinary basic hundreds times_a pays gain change changes
    yaku_han han_of triplet_fu group_fu regular_items added rounded items_of fu_of value_of beats counted none_of keep_better_by best_of won_of groups_of ways_of
    full_reading_of worth hand_score_by kept_of hand_score_of found_by found_of
green_no_reading = record {
  tiles = refl;
  refusal = ap (λ (x : Scored). x.refusal) (sym (found_is_score (record_of no_reading_hand) 0 0)) ∙ refl;
  before = ap is_all_green (sym (found_is_score (record_of no_reading_hand) 0 0)) ∙ refl;
  after = ap is_all_green (sym (found_is_score (renamed_record man_for_sou (record_of no_reading_hand)) 0 0)) ∙ refl;
}
