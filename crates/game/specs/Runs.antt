-- Lists of entries, "each booked in the game as the last one left it".
-- `Books` is what the contract of each booking says, in crate `game_bookings` and in the handset's calls. So a list of calls is a run. Demand 3's `game` and
-- `named` follow from `Books` alone; its other fields say what the definitions come to.
use Rattle.std.specs.Prelude.{◌≡◌, true, List, [], ◌∷◌, ℕ}
use Rattle.position.specs.declared.Position.{Position}
use Rattle.position.specs.Booking.{Booking, result}
use Rattle.position.specs.Ledger.{is_set}
use Rattle.game.specs.declared.Game.{Game}
use Rattle.game.specs.Game.{Entry, booking, correction, game_refusal, game_after}

-- entry e booked in game g gives the refusal n and leaves the game g' (01, Ledger: "the first listed is its number and the ledger stays. Otherwise ...")
abbrev pub Books : Game → Entry → ℕ → Game → Type 0
Books g e n g' = (n ≡ game_refusal g e) × (g' ≡ game_after g e)

-- a list with its refusals: "Each booking is lent the game as the last one left it, accepted or refused"
pub data Runs : Game → List Entry → List ℕ → Game → Type 0 where
  empty : {g : Game} → Runs g [] [] g
  next : {g g' g'' : Game} {e : Entry} {n : ℕ} {es : List Entry} {ns : List ℕ} → Books g e n g' → Runs g' es ns g'' → Runs g (e ∷ es) (n ∷ ns) g''

-- P of each booking, its refusal and "the ledger as the win meets it": "a correction's win, once past 20, is a win booked in the earlier game" (02, S-10)
abbrev pub Every : (Position → Booking → ℕ → Type 0) → Game → List Entry → List ℕ → Type 0
Every P g [] [] = Unit {0}
Every P g [] (n ∷ ns) = ⊥
Every P g (e ∷ es) [] = ⊥
Every P g (booking b ∷ es) (n ∷ ns) = P g.now b n × Every P (game_after g (booking b)) es ns
Every P g (correction r ∷ es) (n ∷ ns) = (is_set g.correctable ≡ true → P g.earlier (result r) n) × Every P (game_after g (correction r)) es ns

-- the refusals that a list gets, so that what is said of runs is said of every list
unfoldable pub refusals_from : Game → List Entry → List ℕ
refusals_from g [] = []
refusals_from g (e ∷ es) = game_refusal g e ∷ refusals_from (game_after g e) es
