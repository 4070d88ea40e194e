-- The messages of a scored record, of its fu and of a refusal, as lists of clips (SPEECH, Messages), in language l.
use Rattle.std.specs.Prelude.{Bool, cond, List, [], ◌∷◌, ◌++◌, ℕ, ◌+◌, pos, nat_abs, get_or}
use Rattle.units.specs.declared.Fu.{Fu}
use Rattle.hand.specs.Hand.{is_ron}
use Rattle.hand_record.specs.Record.{hand_of, read_of}
use Rattle.yaku.specs.Yaku.{is_yakuman}
use Rattle.points_fu.specs.declared.Items.{Items}
use Rattle.points_fu.specs.Fu.{fu}
use Rattle.score.specs.declared.Scored.{Scored}
use Rattle.score.specs.Score.{score_of}
use Rattle.speech_numerals.specs.Numerals.{numeral}
use Rattle.speech_told.specs.Phrases.{player, yaku_clips, worth_clips, amount_clips, payments_clips, counted_clips}

-- "the winner; 64 or 65; each yaku of the set, ascending; with a yakuman 75, otherwise h, 69, fu, 70 ..; then of seats 0 to 3 each that pays ..;
-- then the winner, 67, the gain, 68"
unfoldable pub score_message : ℕ → ℕ → ℕ → Bool → Scored → List ℕ
score_message l dealer winner ron a =
    player dealer winner ∷ cond ron 64 65 ∷ (yaku_clips a.yaku ++ (worth_clips l (is_yakuman a.yaku) a.h.0 a.fu.0
    ++ (payments_clips l dealer a.changes ++ amount_clips l (player dealer winner) 67 (nat_abs (get_or a.changes winner (pos 0))))))

-- "Score of a record"
unfoldable pub score_said : ℕ → List ℕ → ℕ → ℕ → List ℕ
score_said l s dealer wind =
    let f = (hand_of (read_of s)).fields in
    score_message l dealer f.winner (is_ron f) (score_of s dealer wind)

-- ---- fu

-- what the group at k earns
abbrev pub group_at : List Fu → ℕ → ℕ
group_at g k = (get_or g k (fu 0)).0

-- "the ten items of fu, in document 02's order (S-3)": "Each item that is not 0: its clip (84 to 93) and its number"
unfoldable pub items_clips : ℕ → Items → List ℕ
items_clips l i =
    counted_clips l 84 i.base.0 ++ (counted_clips l 85 i.ron.0 ++ (counted_clips l 86 i.pair.0
    ++ (counted_clips l 87 (group_at i.group 0) ++
    (counted_clips l 88 (group_at i.group 1) ++ (counted_clips l 89 (group_at i.group 2) ++ (counted_clips l 90 (group_at i.group 3)
    ++ (counted_clips l 91 i.wait.0 ++ (counted_clips l 92 i.tsumo.0 ++ counted_clips l 93 i.rounding.0))))))))

-- "Fu of a record: each item ..; 94, the fu, 70. With a yakuman: 75"
unfoldable pub fu_message : ℕ → Scored → List ℕ
fu_message l a = cond (is_yakuman a.yaku) (75 ∷ []) (items_clips l a.items ++ (94 ∷ (numeral l a.fu.0 ++ (70 ∷ []))))

-- ---- a refusal: "from 0 (accepted) to 22: clip 200 + n"

abbrev pub refusal_message : ℕ → List ℕ
refusal_message n = (200 + n) ∷ []
