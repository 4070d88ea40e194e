-- Worked messages of our own, computed.
use Rattle.std.specs.Prelude.{◌≡◌, refl, true, false, [], ◌∷◌, pos, negsuc, replicate, set}
use Rattle.points.specs.Points.{plain}
use Rattle.yaku.specs.Yaku.{is_yakuman}
use Rattle.points_fu.specs.Fu.{base_alone}
use Rattle.score.specs.declared.Scored.{Scored}
use Rattle.speech_numerals.specs.Numerals.{place_of, under_hundred, three_of, scaled_three, english_of, thousands_of, hundreds_of, tens_of, ones_of, four_of}
use Rattle.speech_numerals.specs.Numerals.{scaled_four, eastern_of, numeral}
use Rattle.speech_told.specs.Phrases.{chosen, yaku_clips, limit_clips, is_limit, limit_clip, worth_clips, amount_clips, pays_clips, payments_clips}
use Rattle.speech_told.specs.Messages.{score_message}

-- seat 1 wins 12,000 from seat 3 by ron with riichi (10) and seven pairs (12): six han, 25 fu, haneman
abbrev haneman : Scored
haneman = record {
  refusal = 0;
  h = record { 0 = 6 };
  fu = record { 0 = 25 };
  items = base_alone 25;
  yaku = set (set (replicate 37 false) 10 true) 12 true;
  tried = 1;
  changes = pos 0 ∷ pos 12000 ∷ pos 0 ∷ negsuc 11999 ∷ [];
}

-- with seat 0 as dealer, in English: "South wins by ron, riichi, seven pairs, six han twenty-five fu, haneman; North pays twelve thousand points; South gets
-- twelve thousand points"
pub said_in_english : score_message 2 0 1 true haneman ≡ 61 ∷ 64 ∷ 150 ∷ 152 ∷ 6 ∷ 69 ∷ 11 ∷ 5 ∷ 70 ∷ 72 ∷ 63 ∷ 66 ∷ 43 ∷ 51 ∷ 68 ∷ 61 ∷ 67 ∷ 43 ∷ 51 ∷ 68 ∷ []
unfolding place_of under_hundred three_of scaled_three english_of numeral plain is_yakuman chosen yaku_clips limit_clips is_limit limit_clip worth_clips amount_clips
    pays_clips payments_clips score_message
said_in_english = refl

-- and in Korean, whose 12,000 begins with its scale
pub said_in_korean : score_message 3 0 1 true haneman ≡ 61 ∷ 64 ∷ 150 ∷ 152 ∷ 6 ∷ 69 ∷ 11 ∷ 5 ∷ 70 ∷ 72 ∷ 63 ∷ 66 ∷ 37 ∷ 29 ∷ 68 ∷ 61 ∷ 67 ∷ 37 ∷ 29 ∷ 68 ∷ []
unfolding place_of thousands_of hundreds_of tens_of ones_of four_of scaled_four eastern_of numeral plain is_yakuman chosen yaku_clips limit_clips is_limit limit_clip
    worth_clips amount_clips pays_clips payments_clips score_message
said_in_korean = refl
