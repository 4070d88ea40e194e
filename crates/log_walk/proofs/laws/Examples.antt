-- The lines of document 01's log `01 24`, and of the draw put right by one with seats 0 and 1 ready, `60 2c`. Computed.
use Rattle.std.specs.Prelude.{◌≡◌, List, [], ◌∷◌, ◌++◌, ℕ}
use Rattle.std.proofs.Common.{sym, ap, ◌∙◌}
use Rattle.position.specs.Ledger.{fresh, not_open, out_of_form, total_of, refusal_for, refusals_of, after, applied, effect_of, riichi_gives, draw_gives}
use Rattle.game.specs.Game.{fresh_game, game_out_of_form, game_not_open, game_refusal, with_entry, game_after}
use Rattle.log_entry.proofs.laws.Examples as log
use Rattle.text.specs.Words.{bytes_of}
use Rattle.text.specs.Text.{last_digits, digits_of, signed_of, spaced, line_of}
use Rattle.log_walk.specs.Walk.{entry_line, text_from, printed_text}

pub example : printed_text (1 ∷ 36 ∷ []) ≡ bytes_of "1 R 0 30000 29000 30000 30000 1" ++ (10 ∷ bytes_of "2 D 0 29000 32000 29000 29000 1") ++ (10 ∷ [])
unfolding printed_text text_from entry_line fresh_game game_out_of_form game_not_open game_refusal with_entry game_after
    last_digits digits_of signed_of spaced line_of fresh refusal_for refusals_of not_open out_of_form total_of after applied effect_of riichi_gives draw_gives
example = ap (text_from 1 fresh_game) log.example

pub corrected : printed_text (1 ∷ 36 ∷ 96 ∷ 44 ∷ []) ≡ printed_text (1 ∷ 36 ∷ []) ++ bytes_of "3 X 0 31500 30500 28500 28500 1" ++ (10 ∷ [])
unfolding printed_text text_from entry_line fresh_game game_out_of_form game_not_open game_refusal with_entry game_after
    last_digits digits_of signed_of spaced line_of fresh refusal_for refusals_of not_open out_of_form total_of after applied effect_of riichi_gives draw_gives
corrected =
    ap (text_from 1 fresh_game) log.example_corrected
    ∙ ap (λ (text : List ℕ). text ++ bytes_of "3 X 0 31500 30500 28500 28500 1" ++ (10 ∷ [])) (sym example)
