-- How long the messages are, and that their clips are on the sheet.
use Rattle.std.proofs.Math.Path.{refl}
use Rattle.std.specs.Prelude.{Bool, cond, ℕ, ◌≤◌, ◌<◌, eqb, pos, nat_abs}
use Rattle.std.proofs.Math.Bool.{true, false}
use mathlib.Core.List.{List, [], ◌∷◌, ◌++◌}
use native.Mathlib.Omega.{arith}
use Rattle.std.proofs.Math.ListN.{length, get_or, length-append}
use Rattle.tiles.specs.Below.{any_below}
use Rattle.position.specs.declared.Position.{Position}
use Rattle.waits.specs.declared.Waits.{Waits}
use Rattle.speech_numerals.specs.Numerals.{numeral}
use Rattle.speech_numerals.proofs.laws.Short.{numeral_short}
use Rattle.speech_told.specs.Phrases.{score_clips, tile_clips}
use Rattle.speech_told.specs.Sheet.{is_phrase}
use Rattle.speech_told.proofs.laws.Lengths.{score_short, counted_short, tiles_short}
use Rattle.speech_told.proofs.laws.OnSheet.{Has, has_none, has_then, has_more, has_cond, has_numeral, has_score, has_counted, has_tiles}
use Rattle.speech_table.specs.Messages.{four_scores, scores_message, waits_message, ready_message}

module _ (l : ℕ) (g : Position) (f : (k : ℕ) → nat_abs (get_or g.scores k (pos 0)) < 4294967296) (a : g.sticks < 4294967296) (b : g.counter < 4294967296) where
  pub scores_short : length (scores_message l g) ≤ 92
  unfolding scores_message four_scores
  scores_short =
      let s : (k : ℕ) → length (score_clips l g.dealer k (get_or g.scores k (pos 0))) ≤ 16 =
      λ k. score_short l g.dealer k (get_or g.scores k (pos 0)) (f k) in
      rw (length-append, length-append, length-append, length-append, length-append)
      (omega (arith, s 0, s 1, s 2, s 3, counted_short l 77 g.sticks a, counted_short l 78 g.counter b))

  pub scores_has : Has l (scores_message l g)
  unfolding scores_message four_scores is_phrase
  scores_has =
      let s : (k : ℕ) → Has l (score_clips l g.dealer k (get_or g.scores k (pos 0))) = λ k. has_score l g.dealer k (get_or g.scores k (pos 0)) (f k) in
      has_then (has_then (s 0) (has_then (s 1) (has_then (s 2) (s 3)))) (has_then (has_counted l 77 g.sticks refl a) (has_counted l 78 g.counter refl b))

either : (b : Bool) (x y : List ℕ) (n : ℕ) → length x ≤ n → length y ≤ n → length (cond b x y) ≤ n
either true x y n p q = p
either false x y n p q = q

module _ (w : Waits) where
  pub waits_short : length (waits_message w) ≤ 36
  unfolding waits_message
  waits_short =
      rw length-append
      (omega (
        arith,
        either (any_below 34 (λ k. get_or w.waits k false)) (79 ∷ tile_clips w.waits) (80 ∷ []) 35 (omega (arith, tiles_short w.waits)) (omega arith),
        either w.furiten (81 ∷ []) [] 1 (omega arith) (omega arith),
      ))

  pub waits_has : (l : ℕ) → Has l (waits_message w)
  unfolding waits_message is_phrase
  waits_has l =
      has_then (has_cond l (any_below 34 (λ k. get_or w.waits k false)) (has_more 79 refl (has_tiles l w.waits)) (has_more 80 refl (has_none l)))
      (has_cond l w.furiten (has_more 81 refl (has_none l)) (has_none l))

module _ (l swaps : ℕ) (h : swaps < 4294967296) where
  pub ready_short : length (ready_message l swaps) ≤ 14
  unfolding ready_message
  ready_short = go (eqb swaps 0)
    where
      go : (b : Bool) → length (cond b (82 ∷ []) (numeral l swaps ++ (83 ∷ []))) ≤ 14
      go true = omega arith
      go false = rw length-append (omega (arith, numeral_short l swaps h))

  pub ready_has : Has l (ready_message l swaps)
  unfolding ready_message is_phrase
  ready_has = has_cond l (eqb swaps 0) (has_more 82 refl (has_none l)) (has_then (has_numeral l swaps h) (has_more 83 refl (has_none l)))
