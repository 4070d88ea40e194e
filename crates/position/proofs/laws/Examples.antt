-- The example of document 01, Log: seat 1 declares riichi, then a draw with seat 1 ready. Computed; log_walk/proofs/Claims has it from the bytes on.
use Rattle.std.specs.Prelude.{◌≡◌, refl, List, [], ◌∷◌, pos}
use Rattle.position.specs.Booking.{Booking, result, riichi, draw}
use Rattle.position.specs.Ledger.{fresh, total_of, not_open, out_of_form, refusal_for, refusals_of, riichi_gives, draw_gives, effect_of, applied, after}
use Rattle.position.specs.Ledger.{ledger_from, ledger}

unfoldable pub example : List Booking
example = riichi 1 ∷ result (draw 4) ∷ []

pub example_scores : (ledger example).scores ≡ pos 29000 ∷ pos 32000 ∷ pos 29000 ∷ pos 29000 ∷ []
unfolding example ledger ledger_from fresh refusal_for refusals_of not_open out_of_form total_of after applied effect_of riichi_gives draw_gives
example_scores = refl

pub example_sticks : (ledger example).sticks ≡ 1
unfolding example ledger ledger_from fresh refusal_for refusals_of not_open out_of_form total_of after applied effect_of riichi_gives draw_gives
example_sticks = refl
