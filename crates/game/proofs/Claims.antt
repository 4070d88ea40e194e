-- The theorems of the game: demand 3, for every list of entries from a fresh game; what a correction supersedes.
use Rattle.std.specs.Prelude.{◌≡◌, ◌⊎◌, true, false, ◌&&◌, List, [], ◌∷◌, ◌++◌, map, ℕ, length, replicate}
use Rattle.position.specs.Booking.{Result, Booking, result}
use Rattle.position.specs.Ledger.{is_set, out_of_form, refusal_for, effect_of, ledger}
use Rattle.game.specs.declared.Game.{Game}
use Rattle.game.specs.Game.{Entry, booking, correction, fresh_game, game_refusal, game_after, game_from, standing}
use Rattle.game.specs.Runs.{Runs}
pub use Rattle.game.specs.Runs.{refusals_from}
pub use Rattle.game.specs.Demand3.{Demand3}
use Rattle.game.proofs.laws.After as after
use Rattle.game.proofs.laws.Demand3 as laws
use Rattle.game.proofs.laws.Lists as lists
use Rattle.game.proofs.laws.Standing as stands
use Rattle.game.proofs.laws.Superseded as superseded

-- demand 3
pub demand_3 : (es : List Entry) (ns : List ℕ) (g : Game) → Runs fresh_game es ns g → Demand3 es ns g
demand_3 = laws.demand_3

-- of bookings alone the position is the ledger "kept for the same list", as it was before S-10
pub plain_ledger : (bs : List Booking) → (game_from fresh_game (map booking bs)).now ≡ ledger bs
plain_ledger = lists.plain_ledger

-- every list has its run, so that demand 3 speaks of each
pub runs_exists : (es : List Entry) (g : Game) → Runs g es (refusals_from g es) (game_from g es)
runs_exists = lists.runs_exist

-- ---- the keyed result was wrong (02, S-10)

-- from a fresh game both positions stay in form, so that no 9 is for the form
pub both_in_form : (es : List Entry) → let g = game_from fresh_game es in (out_of_form g.now ≡ false) × (out_of_form g.earlier ≡ false)
both_in_form es = let p = lists.both_kept es in (lists.kept_in_form _ p.0, lists.kept_in_form _ p.1)

-- "The earlier game that is kept for this must be in form too, or the game isn't": a booking is refused with 9, or with the 8 before it, as in that
-- position; of a correction `nine_then_twenty` says it
pub earlier_in_form_too : (g : Game) → is_set g.correctable ≡ true → out_of_form g.earlier ≡ true → (b : Booking)
    → let n = game_refusal g (booking b) in (n ≡ refusal_for g.earlier b) × ((n ≡ 8) ⊎ (n ≡ 9))
earlier_in_form_too = after.earlier_out

-- and only then: where none is kept, or it is in form, a booking meets what it meets in the position that stands
pub else_as_now : (g : Game) → is_set g.correctable && out_of_form g.earlier ≡ false → (b : Booking) → game_refusal g (booking b) ≡ refusal_for g.now b
else_as_now = after.as_now

-- an entry that was accepted leaves `correctable` at 0 or 1, whatever it was
pub correctable_marked : (g : Game) (e : Entry) → game_refusal g e ≡ 0 → let n = (game_after g e).correctable in (n ≡ 0) ⊎ (n ≡ 1)
correctable_marked = after.correctable_marked

-- "It refuses with 20, before all else but the 9 for a game out of form, when there is none to supersede"; past both with what its result meets in the
-- earlier game
pub nine_then_twenty : (g : Game) (r : Result) → let n = game_refusal g (correction r) in
    ((out_of_form g.now ≡ true) ⊎ ((is_set g.correctable ≡ true) × (out_of_form g.earlier ≡ true)) → n ≡ 9)
    × (out_of_form g.now ≡ false → is_set g.correctable ≡ false → n ≡ 20)
    × (out_of_form g.now ≡ false → out_of_form g.earlier ≡ false → is_set g.correctable ≡ true → n ≡ refusal_for g.earlier (result r))
nine_then_twenty g r = (after.nine_first g r, after.twenty_next g r, after.carried_last g r)

-- "the bookings left standing" were accepted: made anew, one after the other, each is
pub standing_accepted : (es : List Entry) → refusals_from fresh_game (map booking (standing es)) ≡ replicate (length (standing es)) 0
standing_accepted = stands.standing_accepted

-- the earlier position is that of all bookings left standing but the last one, a result, which a correction would supersede
pub earlier_kept : (es : List Entry) → let g = game_from fresh_game es in
    is_set g.correctable ≡ true → (bs : List Booking) × (r : Result) × (standing es ≡ bs ++ (result r ∷ [])) × (g.earlier ≡ ledger bs)
earlier_kept = stands.earlier_kept

-- after any list
module _ (es : List Entry) where
  abbrev g : Game
  g = game_from fresh_game es

  -- after entry e, where it is accepted, a correction by r is entry e' instead of e, in number and game
  abbrev Instead : Entry → Result → Entry → Type 0
  Instead e r e' =
      let new = game_after g e in
      game_refusal g e ≡ 0 → (game_refusal new (correction r) ≡ game_refusal g e') × (game_refusal g e' ≡ 0 → game_after new (correction r) ≡ game_after g e')

  -- "Afterwards the game is the one in which the superseded booking was never made and the new one was", the number too: after a result a, a correction is
  -- what its result r would have been instead of a, "declared seats and counters included"; "This holds too when the superseded one had ended the game"
  pub as_if_never_made : (a r : Result) → Instead (booking (result a)) r (booking (result r))
  as_if_never_made a r e = let p = lists.both_kept es in (superseded.same_refusal g p a r e, superseded.same_game g p a r e)

  -- "A correction that was accepted can itself be superseded": two are the second alone
  pub correction_twice : (a r : Result) → Instead (correction a) r (correction r)
  correction_twice a r e = let p = lists.both_kept es in (superseded.twice_refusal g p a r e, superseded.twice_game g p a r e)

  -- "as long as no other booking has been accepted since": after one that finished no hand there is none to supersede
  pub none_to_supersede : (b : Booking) (r : Result) → game_refusal g (booking b) ≡ 0 → (effect_of g.now b).finishes ≡ false
      → game_refusal (game_after g (booking b)) (correction r) ≡ 20
  none_to_supersede b r e f = superseded.none_to_supersede g (lists.both_kept es) b r e f
