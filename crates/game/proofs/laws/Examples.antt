-- A draw that is put right: seat 1 declares riichi, seat 1 is keyed in as ready, then seats 0 and 1. Computed.
use Rattle.std.specs.Prelude.{◌≡◌, refl, List, [], ◌∷◌, pos}
use Rattle.position.specs.Booking.{result, riichi, draw}
use Rattle.position.specs.Ledger.{fresh, total_of, not_open, out_of_form, refusal_for, refusals_of, riichi_gives, draw_gives, effect_of, applied, after, ledger_from}
use Rattle.position.specs.Ledger.{ledger}
use Rattle.game.specs.Game.{Entry, booking, correction, fresh_game, game_out_of_form, game_not_open, game_refusal, with_entry, game_after, game_from}
use Rattle.game.specs.Game.{standing_from, standing}
use Rattle.game.specs.Runs.{refusals_from}

unfoldable pub example : List Entry
example = booking (riichi 1) ∷ booking (result (draw 4)) ∷ correction (draw 12) ∷ []

pub example_refusals : refusals_from fresh_game example ≡ 0 ∷ 0 ∷ 0 ∷ []
unfolding example refusals_from fresh_game game_out_of_form game_not_open game_refusal with_entry game_after fresh refusal_for refusals_of not_open out_of_form total_of
    after applied effect_of riichi_gives draw_gives
example_refusals = refl

pub example_scores : (game_from fresh_game example).now.scores ≡ pos 31500 ∷ pos 30500 ∷ pos 28500 ∷ pos 28500 ∷ []
unfolding example game_from fresh_game game_out_of_form game_not_open game_refusal with_entry game_after fresh refusal_for refusals_of not_open out_of_form total_of after
    applied effect_of riichi_gives draw_gives
example_scores = refl

pub example_standing : standing example ≡ riichi 1 ∷ result (draw 12) ∷ []
unfolding example standing_from ledger ledger_from fresh refusal_for refusals_of not_open out_of_form total_of after applied effect_of riichi_gives draw_gives
example_standing = refl

-- a riichi since then bars it, and at first there is none to supersede
pub barred_refusals : refusals_from fresh_game (correction (draw 4) ∷ booking (result (draw 4)) ∷ booking (riichi 2) ∷ correction (draw 12) ∷ [])
    ≡ 20 ∷ 0 ∷ 0 ∷ 20 ∷ []
unfolding refusals_from fresh_game game_out_of_form game_not_open game_refusal with_entry game_after fresh refusal_for refusals_of not_open out_of_form total_of after
    applied effect_of riichi_gives draw_gives
barred_refusals = refl
