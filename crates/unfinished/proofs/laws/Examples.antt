-- An unfinished hand's bytes and the tiles that they are, and which refusal is first, computed.
use Rattle.std.specs.Prelude.{◌≡◌, refl, [], ◌∷◌}
use Rattle.tiles.specs.Below.{all_below, any_below, count_below}
use Rattle.tiles.specs.Groups.{at_kind}
use Rattle.hand.specs.Held.{meld_holds, in_melds, in_others, in_held, tile_over33, wrong_held, descends, over_four}
use Rattle.hand_record.specs.Record.{held_by}
use Rattle.unfinished.specs.Unfinished.{count_in, held_refusal, refusal_of, read_of, widths, padding_of}

-- chi 234m, 567m 22456p 67s, bit by bit (docs/RECORDS.md)
pub worked : read_of (32 ∷ 34 ∷ 10 ∷ 49 ∷ 69 ∷ 24 ∷ 105 ∷ 203 ∷ 176 ∷ [])
    ≡ record {
      refusal = 0;
      held = record { m = 1; melds = 1 ∷ 0 ∷ 0 ∷ 0 ∷ []; concealed = 4 ∷ 5 ∷ 6 ∷ 10 ∷ 10 ∷ 12 ∷ 13 ∷ 14 ∷ 23 ∷ 24 ∷ 0 ∷ 0 ∷ 0 ∷ [] };
    }
unfolding all_below any_below count_below at_kind meld_holds in_melds in_others in_held tile_over33 wrong_held descends over_four held_by widths count_in padding_of
    held_refusal refusal_of read_of
worked = refl

-- "first match wins": a chi from 9m, and tiles that descend; tiles that descend, with five of a kind
pub two_before_three : held_refusal
    (record { m = 1; melds = 8 ∷ 0 ∷ 0 ∷ 0 ∷ []; concealed = 5 ∷ 4 ∷ 6 ∷ 10 ∷ 10 ∷ 12 ∷ 13 ∷ 14 ∷ 23 ∷ 24 ∷ 0 ∷ 0 ∷ 0 ∷ [] }) 0 ≡ 2
unfolding all_below any_below count_below at_kind meld_holds in_melds in_others in_held tile_over33 wrong_held descends over_four held_refusal
two_before_three = refl

pub three_before_four : held_refusal
    (record { m = 0; melds = 0 ∷ 0 ∷ 0 ∷ 0 ∷ []; concealed = 1 ∷ 0 ∷ 0 ∷ 0 ∷ 0 ∷ 0 ∷ 2 ∷ 2 ∷ 2 ∷ 3 ∷ 3 ∷ 3 ∷ 4 ∷ [] }) 0 ≡ 3
unfolding all_below any_below count_below at_kind meld_holds in_melds in_others in_held tile_over33 wrong_held descends over_four held_refusal
three_before_four = refl
