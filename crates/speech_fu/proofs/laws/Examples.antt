-- A worked message of our own, computed.
use Rattle.std.specs.Prelude.{◌≡◌, refl, true, false, [], ◌∷◌, pos, negsuc, replicate, set}
use Rattle.yaku.specs.Yaku.{is_yakuman}
use Rattle.points_fu.specs.Fu.{base_alone}
use Rattle.score.specs.declared.Scored.{Scored}
use Rattle.speech_numerals.specs.Numerals.{place_of, thousands_of, hundreds_of, tens_of, ones_of, four_of, scaled_four, eastern_of, numeral}
use Rattle.speech_told.specs.Phrases.{counted_clips}
use Rattle.speech_told.specs.Messages.{items_clips, fu_message}

-- seat 1 wins 12,000 from seat 3 by ron with riichi (10) and seven pairs (12): six han, 25 fu, haneman
abbrev haneman : Scored
haneman = record {
  refusal = 0;
  h = record { 0 = 6 };
  fu = record { 0 = 25 };
  items = base_alone 25;
  yaku = set (set (replicate 37 false) 10 true) 12 true;
  tried = 1;
  changes = pos 0 ∷ pos 12000 ∷ pos 0 ∷ negsuc 11999 ∷ [];
}

-- its fu in Japanese: the base of 25 alone, in all 25 fu
pub fu_in_japanese : fu_message 1 haneman ≡ 84 ∷ 11 ∷ 5 ∷ 94 ∷ 11 ∷ 5 ∷ 70 ∷ []
unfolding place_of thousands_of hundreds_of tens_of ones_of four_of scaled_four eastern_of numeral is_yakuman counted_clips items_clips fu_message
fu_in_japanese = refl
