-- How long the messages of a score are, and that their clips are on the sheet.
use Rattle.std.specs.Prelude.{◌≡◌, Bool, cond, List, [], ◌∷◌, ◌++◌, ℕ, ◌+◌, ◌≤◌, ◌<◌, pos, nat_abs, get_or}
use Rattle.std.proofs.Math.Path.{refl}
use Rattle.std.proofs.Math.Bool.{true, false}
use native.Mathlib.Omega.{arith}
use Rattle.std.proofs.Common.{lt-ltb, le-ltb}
use Rattle.std.proofs.Math.ListN.{length, length-append}
use Rattle.hand.specs.Hand.{is_ron}
use Rattle.hand_record.specs.Record.{hand_of, read_of}
use Rattle.yaku.specs.Yaku.{is_yakuman}
use Rattle.points_fu.specs.declared.Items.{Items}
use Rattle.points_fu.specs.Fu.{added}
use Rattle.score.specs.Score.{score_of}
use Rattle.score.proofs.Claims.{items_total}
use Rattle.speech_numerals.specs.Numerals.{numeral}
use Rattle.speech_numerals.proofs.laws.Short.{numeral_short}
use Rattle.speech_told.specs.Phrases.{player}
use Rattle.speech_told.specs.Sheet.{is_phrase}
use Rattle.speech_told.proofs.laws.OnSheet.{Has, has_none, has_then, has_more, has_cond, has_numeral, has_player, verbs, has_yaku_lem, has_worth, has_amount}
use Rattle.speech_told.proofs.laws.OnSheet.{has_payments, has_counted}
use Rattle.speech_told.proofs.laws.Lengths.{yaku_short, worth_short, amount_short, payments_short, counted_short}
use Rattle.speech_told.specs.Messages.{score_message, score_said, group_at, items_clips, fu_message, refusal_message}
use Rattle.score.proofs.laws.Small.{small}
use Rattle.speech_told.proofs.laws.Told.{changes_fit}

-- ---- a score

module _ (l : ℕ) (s : List ℕ) (dealer wind : ℕ) where
  pub score_short : length (score_said l s dealer wind) ≤ 147
  unfolding score_said score_message
  score_short =
      let a = score_of s dealer wind in
      let w = (hand_of (read_of s)).fields.winner in
      rw (length-append, length-append, length-append)
      (omega (
        arith,
        yaku_short a.yaku,
        worth_short l (is_yakuman a.yaku) a.h.0 a.fu.0 (omega (arith, (small s dealer wind).0)) (omega (arith, (small s dealer wind).1)),
        payments_short l dealer a.changes (changes_fit s dealer wind),
        amount_short l (player dealer w) 67 (nat_abs (get_or a.changes w (pos 0))) (changes_fit s dealer wind w),
      ))

  -- ---- fu

  module _ (i : Items) (few : added i < 1000) where
    items_short : length (items_clips l i) ≤ 140
    unfolding items_clips added
    items_short =
        rw (length-append, length-append, length-append, length-append, length-append, length-append, length-append, length-append, length-append)
        (omega (
          arith,
          counted_short l 84 i.base.0 (omega arith),
          counted_short l 85 i.ron.0 (omega arith),
          counted_short l 86 i.pair.0 (omega arith),
          counted_short l 87 (group_at i.group 0) (omega arith),
          counted_short l 88 (group_at i.group 1) (omega arith),
          counted_short l 89 (group_at i.group 2) (omega arith),
          counted_short l 90 (group_at i.group 3) (omega arith),
          counted_short l 91 i.wait.0 (omega arith),
          counted_short l 92 i.tsumo.0 (omega arith),
          counted_short l 93 i.rounding.0 (omega arith),
        ))

  pub fu_short : length (fu_message l (score_of s dealer wind)) ≤ 155
  unfolding fu_message
  fu_short = go (is_yakuman (score_of s dealer wind).yaku)
    where
      go : (b : Bool) → length (cond b (75 ∷ [])
          (items_clips l (score_of s dealer wind).items ++ (94 ∷ (numeral l (score_of s dealer wind).fu.0 ++ (70 ∷ []))))) ≤ 155
      go true = omega arith
      go false =
          let f = (small s dealer wind).1 in
          rw (length-append, length-append)
          (omega (
            arith,
            items_short (score_of s dealer wind).items (omega (arith, items_total s dealer wind)),
            numeral_short l (score_of s dealer wind).fu.0
                (omega arith),
          ))

  -- ---- on the sheet

  pub score_has : Has l (score_said l s dealer wind)
  unfolding score_said score_message
  score_has =
      let a = score_of s dealer wind in
      let f = (hand_of (read_of s)).fields in
      has_more (player dealer f.winner) (has_player dealer f.winner) (has_more (cond (is_ron f) 64 65) (way (is_ron f))
      (has_then (has_yaku_lem l a.yaku) (has_then
      (has_worth l (is_yakuman a.yaku) a.h.0 a.fu.0 (omega (arith, (small s dealer wind).0)) (omega (arith, (small s dealer wind).1)))
      (has_then (has_payments l dealer a.changes (changes_fit s dealer wind))
      (has_amount l (player dealer f.winner) 67 (nat_abs (get_or a.changes f.winner (pos 0))) (has_player dealer f.winner) verbs.3
      (changes_fit s dealer wind f.winner))))))
    where
      way : (b : Bool) → is_phrase (cond b 64 65) ≡ true
      way true = verbs.0
      way false = verbs.1

  items_has : (i : Items) → added i < 1000 → Has l (items_clips l i)
  unfolding items_clips added is_phrase
  items_has i few =
      has_then (has_counted l 84 i.base.0 refl (omega arith))
      (has_then (has_counted l 85 i.ron.0 refl (omega arith)) (has_then (has_counted l 86 i.pair.0 refl (omega arith))
      (has_then (has_counted l 87 (group_at i.group 0) refl (omega arith))
      (has_then (has_counted l 88 (group_at i.group 1) refl (omega arith)) (has_then (has_counted l 89 (group_at i.group 2) refl (omega arith))
      (has_then (has_counted l 90 (group_at i.group 3) refl (omega arith))
      (has_then (has_counted l 91 i.wait.0 refl (omega arith))
      (has_then (has_counted l 92 i.tsumo.0 refl (omega arith)) (has_counted l 93 i.rounding.0 refl (omega arith))))))))))

  pub fu_has : Has l (fu_message l (score_of s dealer wind))
  unfolding fu_message is_phrase
  fu_has =
      let a = score_of s dealer wind in
      let f = (small s dealer wind).1 in
      let few : added a.items < 1000 = omega (arith, items_total s dealer wind) in
      has_cond l (is_yakuman a.yaku) (has_more 75 refl (has_none l))
      (has_then (items_has a.items few) (has_more 94 refl (has_then (has_numeral l a.fu.0 (omega arith)) (has_more 70 refl (has_none l)))))

-- ---- a refusal

refusal_row : (n : ℕ) → n ≤ 22 → is_phrase (200 + n) ≡ true
unfolding is_phrase
refusal_row n h =
    rw (
      lt-ltb 59 (200 + n) (omega arith),
      le-ltb (200 + n) 95 (omega arith),
      lt-ltb 99 (200 + n) (omega arith),
      le-ltb (200 + n) 134 (omega arith),
      lt-ltb 140 (200 + n) (omega arith),
      le-ltb (200 + n) 177 (omega arith),
      lt-ltb 199 (200 + n) (omega arith),
      lt-ltb (200 + n) 223 (omega arith),
    )

pub refusal_has : (l n : ℕ) → n ≤ 22 → Has l (refusal_message n)
refusal_has l n h = has_more (200 + n) (refusal_row n h) (has_none l)
