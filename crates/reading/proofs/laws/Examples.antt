-- The readings of worked hands (01, Table of hands to prove, and the cases that its "Mistakes to shut out" names), computed.
use Rattle.std.specs.Prelude.{◌≡◌, refl, List, [], ◌∷◌, ℕ}
use Rattle.std.proofs.Common.{inl, inr, arith}
use Rattle.tiles.specs.Below.{all_below, count_below}
use Rattle.tiles.specs.Groups.{is_group, at_kind, uses}
use Rattle.tiles.specs.Tally.{tally_of}
use Rattle.tiles.proofs.laws.Tally.{of_kind}
use Rattle.reading.specs.declared.Reading.{Reading}
use Rattle.reading.specs.Reading.{holds, is_seven_pairs, is_orphans, of_shape}
use Rattle.reading.specs.Order.{Before}
use Rattle.reading.specs.search.Readings.{concat_map, is_empty, less, fits, without, passes, step, splits, regular_of, placed_at, placed, paired, shaped}
use Rattle.reading.specs.search.Readings.{readings}

-- of tiles, m melds and the winning kind
abbrev readings_of : List ℕ → ℕ → ℕ → List Reading
readings_of l m win = readings (tally_of (of_kind l)) m win

record Worked : Type 0 where
  -- line 4: 111222333m 789s 99p by 9s
  line_4 :
      readings_of (0 ∷ 0 ∷ 0 ∷ 1 ∷ 1 ∷ 1 ∷ 2 ∷ 2 ∷ 2 ∷ 24 ∷ 25 ∷ 26 ∷ 17 ∷ 17 ∷ []) 0 26
      ≡ regular_of 17 (0 ∷ 0 ∷ 0 ∷ 24 ∷ []) 4 ∷ regular_of 17 (24 ∷ 34 ∷ 35 ∷ 36 ∷ []) 1 ∷ []
  -- line 5: 112233m 778899p 55s by 5s
  line_5 :
      readings_of (0 ∷ 0 ∷ 1 ∷ 1 ∷ 2 ∷ 2 ∷ 15 ∷ 15 ∷ 16 ∷ 16 ∷ 17 ∷ 17 ∷ 22 ∷ 22 ∷ []) 0 22
      ≡ regular_of 22 (0 ∷ 0 ∷ 15 ∷ 15 ∷ []) 0 ∷ of_shape 1 ∷ []
  -- the same by 3m: two equal groups are two places
  equal_groups :
      readings_of (0 ∷ 0 ∷ 1 ∷ 1 ∷ 2 ∷ 2 ∷ 15 ∷ 15 ∷ 16 ∷ 16 ∷ 17 ∷ 17 ∷ 22 ∷ 22 ∷ []) 0 2
      ≡ regular_of 22 (0 ∷ 0 ∷ 15 ∷ 15 ∷ []) 1 ∷ regular_of 22 (0 ∷ 0 ∷ 15 ∷ 15 ∷ []) 2 ∷ of_shape 1 ∷ []
  -- line 6: chi, 567m 456p 678s 22p by 8s
  line_6 : readings_of (4 ∷ 5 ∷ 6 ∷ 12 ∷ 13 ∷ 14 ∷ 23 ∷ 24 ∷ 25 ∷ 10 ∷ 10 ∷ []) 1 25 ≡ regular_of 10 (4 ∷ 12 ∷ 23 ∷ 68 ∷ []) 3 ∷ []
  -- four melds and a pair
  pair_only : readings_of (31 ∷ 31 ∷ []) 4 31 ≡ regular_of 31 (68 ∷ 68 ∷ 68 ∷ 68 ∷ []) 0 ∷ []
  -- line 12: 1111m 44m 77m 22p 55p 88p by 8p
  line_12 : readings_of (0 ∷ 0 ∷ 0 ∷ 0 ∷ 3 ∷ 3 ∷ 6 ∷ 6 ∷ 10 ∷ 10 ∷ 13 ∷ 13 ∷ 16 ∷ 16 ∷ []) 0 16 ≡ []
  -- 89m 1p is no run, nor 9s East South
  over_suits : readings_of (7 ∷ 8 ∷ 9 ∷ 26 ∷ 27 ∷ 28 ∷ 33 ∷ 33 ∷ []) 2 33 ≡ []
  -- line 4's two readings are ordered by their groups, not by their places
  groups_first : Before (regular_of 17 (0 ∷ 0 ∷ 0 ∷ 24 ∷ []) 4) (regular_of 17 (24 ∷ 34 ∷ 35 ∷ 36 ∷ []) 1)
  -- thirteen orphans with two chun, and without North
  thirteen : readings_of (0 ∷ 8 ∷ 9 ∷ 17 ∷ 18 ∷ 26 ∷ 27 ∷ 28 ∷ 29 ∷ 30 ∷ 31 ∷ 32 ∷ 33 ∷ 33 ∷ []) 0 33 ≡ of_shape 2 ∷ []
  twelve : readings_of (0 ∷ 8 ∷ 9 ∷ 17 ∷ 18 ∷ 26 ∷ 27 ∷ 28 ∷ 29 ∷ 31 ∷ 32 ∷ 33 ∷ 33 ∷ []) 0 33 ≡ []

worked : Worked
unfolding concat_map is_empty less fits without passes step splits placed_at placed paired shaped readings holds is_seven_pairs is_orphans all_below count_below is_group
    at_kind uses of_kind tally_of
worked =
    record {
      line_4 = refl;
      line_5 = refl;
      equal_groups = refl;
      line_6 = refl;
      pair_only = refl;
      line_12 = refl;
      over_suits = refl;
      groups_first = inr (refl, inr (refl, inl (omega arith)));
      thirteen = refl;
      twelve = refl;
    }
