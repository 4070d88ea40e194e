-- Demand 3: what is claimed of a list of bookings, corrections among them, one after the other, from a fresh game.
use Rattle.std.specs.Prelude.{◌≡◌, List, ℕ, ◌<◌, ◌+ℤ◌}
use Rattle.position.specs.Booking.{result, win, multi_ron}
use Rattle.position.specs.Ledger.{starting_score, points_in_play, fresh, score_at, total_of, refusal_for, ledger, given_from}
use Rattle.position.specs.Wins.{WinBooked, MultiRonBooked}
use Rattle.game.specs.declared.Game.{Game}
use Rattle.game.specs.Game.{Entry, fresh_game, game_from, standing}
use Rattle.game.specs.Runs.{Every, refusals_from}

-- "a single claim about the whole list": es got the refusals ns and left the game g
pub record Demand3 (es : List Entry) (ns : List ℕ) (g : Game) : Type 0 where
  -- "The four scores plus 1,000 times the sticks on the table are 120,000."
  pub sum : total_of g.now ≡ points_in_play
  -- "Each seat has 30,000 plus all that the rules give or take for the bookings accepted": "The scores found after a list are those of the bookings left
  -- standing" (02, S-10)
  pub seats : (i : ℕ) → i < 4 → score_at g.now i ≡ starting_score +ℤ given_from fresh (standing es) i
  -- "The whole game equals the ledger of document 01, kept for the same list", of the bookings left standing
  pub ledger : g.now ≡ ledger (standing es)
  -- the whole record that is lent is what its own step makes of the list
  pub game : g ≡ game_from fresh_game es
  -- "A booking was accepted exactly when the documents name no refusal for it; otherwise it got the number that they name."
  pub named : (ns ≡ refusals_from fresh_game es) × Every (λ l b n. n ≡ refusal_for l b) fresh_game es ns
  -- the same of a win, in full: by which reading it was paid, and when it was refused for its tiles
  pub wins : Every (λ l b n. (s : List ℕ) → b ≡ result (win s) → WinBooked l s n) fresh_game es ns
  -- and of a multiple ron (02, S-6)
  pub multi_rons : Every (λ l b n. (number : ℕ) (s : List ℕ) → b ≡ result (multi_ron number s) → MultiRonBooked l number s n) fresh_game es ns
