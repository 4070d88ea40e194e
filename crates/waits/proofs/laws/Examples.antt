-- An unfinished hand with its waits, computed.
use Rattle.std.specs.Prelude.{◌≡◌, refl, true, ◌||◌, [], ◌∷◌, eqb}
use Rattle.std.proofs.Common.{sym, ◌∙◌}
use Rattle.tiles.specs.Below.{all_below, any_below, count_below, tabulate}
use Rattle.tiles.specs.Groups.{at_kind, is_group}
use Rattle.tiles.specs.Tally.{tally_of}
use Rattle.hand.specs.Held.{meld_holds, in_melds, in_others, in_held, tile_over33, wrong_held, descends, over_four}
use Rattle.hand_record.specs.Record.{held_by}
use Rattle.reading.specs.Reading.{is_seven_pairs, is_orphans}
use Rattle.reading.specs.search.Readings.{is_empty, less, fits, without}
use Rattle.reading_splits.specs.search.SplitsInto.{lowest, piece_at, splits_into}
use Rattle.unfinished.specs.Unfinished.{count_in, held_refusal, refusal_of, widths, padding_of}
use Rattle.waits.specs.Waits.{with_one}
use Rattle.waits.specs.Answer.{waits_of}
use Rattle.waits.proofs.laws.One.{one_answer}
use Rattle.waits.specs.search.Found.{reads, is_wait, wait_set, found_of}
use Rattle.waits.proofs.laws.Exact.{found}

-- what the code finds of the hand below
two_sided : found_of (32 ∷ 34 ∷ 10 ∷ 49 ∷ 69 ∷ 24 ∷ 105 ∷ 203 ∷ 176 ∷ []) (30 ∷ 25 ∷ 3 ∷ [])
    ≡ record { refusal = 0; waits = tabulate 34 0 (λ k. eqb k 22 || eqb k 25); furiten = true }
unfolding all_below any_below count_below at_kind is_group tally_of meld_holds in_melds in_others in_held tile_over33 wrong_held descends over_four held_by widths
    count_in padding_of held_refusal refusal_of is_seven_pairs is_orphans is_empty less fits without lowest piece_at splits_into with_one reads is_wait wait_set found_of
two_sided = refl

-- chi 234m, 567m 22456p 67s (docs/RECORDS.md) waits for 5s, 22, and 8s, 25; with North, 8s and 4m discarded it is in furiten
pub worked : waits_of (32 ∷ 34 ∷ 10 ∷ 49 ∷ 69 ∷ 24 ∷ 105 ∷ 203 ∷ 176 ∷ []) (30 ∷ 25 ∷ 3 ∷ [])
    ≡ record { refusal = 0; waits = tabulate 34 0 (λ k. eqb k 22 || eqb k 25); furiten = true }
worked = sym (one_answer _ _ (found_of _ _) (found _ _)) ∙ two_sided
