-- The game (01, The game; 02, S-10): the position that stands, with the earlier one that is kept so that a result can be put right; what is booked in it,
-- and the bookings left standing.
use Rattle.std.specs.Prelude.{Bool, true, false, ◌&&◌, ◌||◌, not, cond, List, [], ◌∷◌, ◌++◌, ℕ, ltb}
use Rattle.position.specs.Booking.{Result, Booking, result}
use Rattle.position.specs.Ledger.{is_set, mark, fresh, is_over, out_of_form, not_open, first_of, refusals_of, refusal_for, effect_of, after, ledger}
use Rattle.game.specs.declared.Game.{Game}

-- what is booked in a game: a booking, or a correction, which "carries a win, draw, chombo or multiple ron" (02, S-10)
pub data Entry : Type 0 where
  booking : Booking → Entry
  correction : Result → Entry

-- ---- an entry, booked

-- a fresh position, and no booking to supersede
unfoldable pub fresh_game : Game
fresh_game = record { now = fresh; earlier = fresh; correctable = mark false }

-- a game is "out of form" where its position is, or where the earlier one is kept and is: "The earlier game that is kept for this must be in form too, or
-- the game isn't" (02, S-10)
unfoldable pub game_out_of_form : Game → Bool
game_out_of_form g = out_of_form g.now || (is_set g.correctable && out_of_form g.earlier)

-- "a game that isn't open: over .., or out of form" (01)
unfoldable pub game_not_open : Game → Bool
game_not_open g = is_over g.now || game_out_of_form g

-- a booking meets 9 in a game that isn't open; a correction meets "20, before all else but the 9 for a game out of form, when there is none to supersede",
-- and "once past 20, is a win booked in the earlier game", or any other result
unfoldable pub game_refusal : Game → Entry → ℕ
game_refusal g (booking b) = first_of (refusals_of (game_not_open g) g.now b)
game_refusal g (correction r) =
    first_of ((game_out_of_form g, 9) ∷ (not (is_set g.correctable), 20) ∷ refusals_of (not_open g.earlier) g.earlier (result r))

-- where no refusal meets it: a booking keeps the position before it as the earlier one, and can be superseded if it finishes a hand;
-- after a correction "the game is the one in which the superseded booking was never made and the new one was", and it "can itself be superseded"
unfoldable pub with_entry : Game → Entry → Game
with_entry g (booking b) = record { now = after g.now b; earlier = g.now; correctable = mark (effect_of g.now b).finishes }
with_entry g (correction r) = record { now = after g.earlier (result r); earlier = g.earlier; correctable = mark true }

-- "Where the new booking is refused, the old one stands": a refusal changes nothing
unfoldable pub game_after : Game → Entry → Game
game_after g e = cond (ltb 0 (game_refusal g e)) g (with_entry g e)

-- after each of a list, from g on
unfoldable pub game_from : Game → List Entry → Game
game_from g [] = g
game_from g (e ∷ es) = game_from (game_after g e) es

-- ---- the bookings left standing

-- bs stand, and after them `last`: the booking that a correction would supersede, "the last finished booking, as long as no other booking has been accepted
-- since", or none. What stands after the entries
unfoldable pub standing_from : List Booking → List Booking → List Entry → List Booking
standing_from bs last [] = bs ++ last
standing_from bs last (booking b ∷ es) =
    let l = ledger (bs ++ last) in
    cond (ltb 0 (refusal_for l b)) (standing_from bs last es)
    (cond (effect_of l b).finishes (standing_from (bs ++ last) (b ∷ []) es) (standing_from ((bs ++ last) ++ (b ∷ [])) [] es))
standing_from bs [] (correction r ∷ es) = standing_from bs [] es
standing_from bs (b ∷ last) (correction r ∷ es) =
    cond (ltb 0 (refusal_for (ledger bs) (result r))) (standing_from bs (b ∷ last) es) (standing_from bs (result r ∷ []) es)

-- "the bookings left standing" of a list
abbrev pub standing : List Entry → List Booking
standing es = standing_from [] [] es
