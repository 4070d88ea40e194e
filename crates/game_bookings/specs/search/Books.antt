-- How the code goes from a game to a position: where it makes a booking, what that is, and what a correction meets.
use Rattle.std.specs.Prelude.{◌&&◌, cond, ℕ, Result}
use Rattle.std.specs.Result.{result_unwrap_or}
use Rattle.refusals.specs.declared.Refusal.{Refusal}
use Rattle.refusals.specs.Refusal.{refusal_in}
use Rattle.position.specs.declared.Position.{Position}
use Rattle.position.specs.Booking.{Booking}
use Rattle.position.specs.Ledger.{is_set, out_of_form, Moves}
use Rattle.game.specs.declared.Game.{Game}
use Rattle.game.specs.Game.{game_out_of_form}

-- a correction meets 9, 20, or the refusal n of its result
abbrev pub correction_refusal : Game → ℕ → ℕ
correction_refusal g n = cond (game_out_of_form g) 9 (cond (is_set g.correctable) n 20)

-- the position in which the code makes a booking
abbrev pub checked_in : Game → Position
checked_in g = cond (is_set g.correctable && out_of_form g.earlier) g.earlier g.now

-- what a call may give in a position is what booking b gives there
abbrev pub Makes : (Result Position Refusal → Type 0) → Position → Booking → Type 0
Makes Gives p b = (m : Result Position Refusal) → Gives m → Moves p b (refusal_in m) (result_unwrap_or m p)
