-- What a position holds, by the past that led to it (01, The game; 02, S-5 to S-8).
use Rattle.std.specs.Prelude.{◌≡◌, false, ◌||◌, ◌⊎◌, List, [], ◌∷◌, ℕ, ◌+◌, ◌/◌, ◌<◌, ◌≤◌, ltb, leb, eqb}
use Rattle.hand_record.specs.Record.{IsSound}
use Rattle.reading.specs.declared.Reading.{Reading}
use Rattle.reading.specs.All.{Each}
use Rattle.position.specs.declared.Position.{Position}
use Rattle.position.specs.Booking.{Booking}
use Rattle.position.specs.Ledger.{hand_for, is_set, is_declared, not_open, feeder_index, feeder_at}
use Rattle.position.specs.Wins.{HasYaku}
use Rattle.game_rules.specs.Past.{records_in, has_declared, has_named, hands_in, passes_in, dealer_in, counters_in, sticks_put, sticks_returned}

-- position l after the bookings of this past
pub record History (past : List Booking) (l : Position) : Type 0 where
  -- "The deal passes ..; after seat 3 the wind turns South"
  pub deal : passes_in past < 8 → (l.dealer ≡ dealer_in past) × (l.wind ≡ passes_in past / 4)
  -- "after South's seat 3 the game is marked over, dealer and wind staying"
  pub stays : 8 ≤ passes_in past → (l.dealer ≡ 3) × (l.wind ≡ 1)
  -- "it is marked so at 200 finished hands too"
  pub over : is_set l.over ≡ leb 8 (passes_in past) || leb 200 (hands_in past)
  -- "Refusal 9 is for a game that isn't open: over (marked so, or 200 hands finished), or out of form": after a list from a fresh game none is out of form
  pub shut : not_open l ≡ leb 8 (passes_in past) || leb 200 (hands_in past)
  -- "finished hands"
  pub hands : l.hands ≡ hands_in past
  -- "The game holds a counter" (02, S-5)
  pub counter : l.counter ≡ counters_in past
  -- "Winner also takes all sticks"; of a chombo "this hand's sticks go back to their owners"
  pub sticks : l.sticks + sticks_returned past ≡ sticks_put past
  -- "declared seats"
  pub declared : (i : ℕ) → i < 4 → is_declared l i ≡ has_declared past i
  -- the feeder that is named for a holder's yaku (02, S-8)
  pub feeders : (holder feeder yaku : ℕ) → holder < 4 → feeder < 4 → (yaku ≡ 28) ⊎ (yaku ≡ 29)
      → eqb (feeder_at l (feeder_index holder yaku)) (1 + feeder) ≡ has_named past holder feeder yaku

-- the game is open, by its past: it is not "over (marked so, or 200 hands finished)"
abbrev pub IsOpen : List Booking → Type 0
IsOpen past = leb 8 (passes_in past) || leb 200 (hands_in past) ≡ false

-- P of each booking of a past, with the past before it
abbrev pub EachWithPast : (Booking → List Booking → Type 0) → List Booking → Type 0
EachWithPast P [] = Unit {0}
EachWithPast P (b ∷ past) = P b past × EachWithPast P past

-- "11, riichi field non-zero and winner not declared, or the reverse": neither is so of a record that was accepted
abbrev pub RiichiAgrees : List Booking → List ℕ → Type 0
RiichiAgrees past s = ltb 0 (hand_for s).fields.riichi ≡ has_declared past (hand_for s).fields.winner

-- a record that neither Score nor 11 refuses: it is sound, a reading of its tiles has a yaku, and riichi field and declaration agree
abbrev pub WinsBy : List Booking → Position → List ℕ → Type 0
WinsBy past l s = IsSound s × ((r : Reading) × HasYaku l s r) × RiichiAgrees past s

-- of each record of a booking
abbrev pub RiichiDeclared : Booking → List Booking → Type 0
RiichiDeclared b past = Each (RiichiAgrees past) (records_in b)
