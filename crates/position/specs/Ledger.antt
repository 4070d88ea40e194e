-- The ledger (01, The game and its paragraph "Ledger"; 02, S-5 to S-8 and S-11): kept from the bookings' arguments alone, with a position's fields.
-- The game's numbers; the fields; refusals; what an accepted booking does, as one structure; the fields after it; the ledger of a list.
use Rattle.std.specs.Prelude.{◌≡◌, Bool, true, false, ◌&&◌, ◌||◌, not, cond, List, [], ◌∷◌, ℕ, zero, suc, ◌+◌, ◌-◌, ◌*◌, ◌/◌, ◌%◌, ◌^◌, ltb, leb, eqb, ℤ, pos, neg_ℤ, nat_abs, ◌+ℤ◌, get_or, set, replicate}
use Rattle.std.specs.Int.Signed.{lt_z, le_z}
use Rattle.tiles.specs.Below.{all, any, count, sum, tabulate}
use Rattle.hand.specs.declared.Hand.{Hand}
use Rattle.hand.specs.Hand.{is_ron, hand_tally}
use Rattle.score.specs.declared.Scored.{Scored}
use Rattle.score.specs.Score.{score_of}
use Rattle.position.specs.declared.Position.{Position}
use Rattle.position.specs.Booking.{Booking, result, riichi, win, draw, chombo, pao, multi_ron}
pub use Rattle.hand_rons.specs.Records.{hand_for}
use Rattle.hand_rons.specs.Records.{records_of, first_unreadable, not_on_one_tile, is_winner, first_winner}

-- ---- the game's numbers, each named once

-- "30,000 each at first"
abbrev pub starting_score : ℤ
starting_score = pos 30000

-- "scores plus 1,000 times sticks not 120,000": what they are in all
abbrev pub points_in_play : ℤ
points_in_play = pos 120000

-- "200 hands finished"
abbrev pub last_hand : ℕ
last_hand = 200

-- "so the floor of a score becomes −28,540,000" (02, S-6)
abbrev pub floor : ℤ
floor = neg_ℤ (pos 28540000)

-- ---- the fields

-- a mark in a position is a number: set where it is not 0
abbrev pub is_set : ℕ → Bool
is_set n = ltb 0 n

-- the number of a mark that a booking sets or clears
abbrev pub mark : Bool → ℕ
mark b = cond b 1 0

-- "scores (30,000 each at first; ..), ..; all but the scores are 0 or unset at first"; "The game holds a counter, 0 at first" (02, S-5); no feeder is named
unfoldable pub fresh : Position
fresh = record {
  scores = tabulate 4 0 (λ i. starting_score);
  sticks = 0;
  declared = tabulate 4 0 (λ i. mark false);
  dealer = 0;
  wind = 0;
  hands = 0;
  over = mark false;
  counter = 0;
  feeders = replicate 8 0;
}

-- the score of seat i ("Seats 0 to 3")
abbrev pub score_at : Position → ℕ → ℤ
score_at l i = get_or l.scores i (pos 0)

-- seat i is one of the "declared seats"
abbrev pub is_declared : Position → ℕ → Bool
is_declared l i = is_set (get_or l.declared i 0)

-- how many "declared seats" there are
abbrev pub declarations : Position → ℕ
declarations l = count 4 (is_declared l)

-- the index of a holder's yaku, 28 or 29, among the feeders (02, S-8): by holder, 28's before 29's
abbrev pub feeder_index : ℕ → ℕ → ℕ
feeder_index holder yaku = 4 * (yaku - 28) + holder

-- what a position holds there: 0 where no feeder is named, 1 + the feeder where one is
abbrev pub feeder_at : Position → ℕ → ℕ
feeder_at l index = get_or l.feeders index 0

-- "scores plus 1,000 times sticks"
unfoldable pub total_of : Position → ℤ
total_of l = score_at l 0 +ℤ score_at l 1 +ℤ score_at l 2 +ℤ score_at l 3 +ℤ pos (1000 * l.sticks)

-- ---- refusals

-- a and b are equal ("not 120,000" below)
abbrev pub eq_z : ℤ → ℤ → Bool
eq_z a b = le_z a b && le_z b a

-- "over (marked so, or 200 hands finished)"
abbrev pub is_over : Position → Bool
is_over l = is_set l.over || eqb l.hands last_hand

-- at an index "a feeder over 3, or one equal to its holder" (02, S-8), n being 0 or 1 + the feeder
abbrev pub wrong_feeder : ℕ → ℕ → Bool
wrong_feeder index n = ltb (1 + 3) n || eqb n (1 + index % 4)

-- "out of form (dealer over 3, wind over 1, over 200 hands, fewer sticks than declared seats, a score under the floor below, or scores plus 1,000 times
-- sticks not 120,000)";
-- "The counter never exceeds the hands finished, and a game where it does is out of form" (02, S-5);
-- "A game that holds a feeder over 3, or one equal to its holder, is out of form" (02, S-8)
unfoldable pub out_of_form : Position → Bool
out_of_form l =
    ltb 3 l.dealer
    || ltb 1 l.wind
    || ltb last_hand l.hands
    || ltb l.sticks (declarations l)
    || ltb l.hands l.counter
    || any 8 (λ i. wrong_feeder i (feeder_at l i))
    || any 4 (λ i. lt_z (score_at l i) floor)
    || not (eq_z (total_of l) points_in_play)

-- 9: "a game that isn't open"
unfoldable pub not_open : Position → Bool
not_open l = is_over l || out_of_form l

-- what Score gives of a win's record, "with the game's dealer and wind"
abbrev pub scored_for : Position → List ℕ → Scored
scored_for l s = score_of s l.dealer l.wind

-- 11: "riichi field non-zero and winner not declared, or the reverse"
abbrev pub riichi_mismatch : Position → Hand → Bool
riichi_mismatch l h = cond (ltb 0 h.fields.riichi) (not (is_declared l h.fields.winner)) (is_declared l h.fields.winner)

-- "the first listed is its number": of pairs (it meets the booking, its number) in the papers' order, the number of the first that meets it, or 0
abbrev pub first_of : List (Bool × ℕ) → ℕ
first_of [] = 0
first_of (r ∷ rs) = cond r.0 r.1 (first_of rs)

-- a refusal that another call gives, 0 where it gives none
abbrev pub handed_on : ℕ → Bool × ℕ
handed_on n = (is_set n, n)

-- of a win's record in an open game: "Score's 1 to 7 with the game's dealer and wind; 11"
abbrev pub win_refusals : Position → List ℕ → List (Bool × ℕ)
win_refusals l s = handed_on (scored_for l s).refusal ∷ (riichi_mismatch l (hand_for s), 11) ∷ []

-- of several records "6, 7 or 11 of the first record that meets one" (02, S-6)
unfoldable pub record_refusals : Position → List (List ℕ) → List (Bool × ℕ)
record_refusals l [] = []
record_refusals l (s ∷ ss) = handed_on (first_of (win_refusals l s)) ∷ record_refusals l ss

-- "four bits, seat 0 first, set for ready"
abbrev pub is_ready : ℕ → ℕ → Bool
is_ready bits i = eqb (bits / 2 ^ (3 - i) % 2) 1

-- 18: "a holder who is also the feeder, a yaku other than those two, or the same holder and yaku named twice in a hand" (02, S-8)
abbrev pub wrong_pao : Position → ℕ → ℕ → ℕ → Bool
wrong_pao l holder feeder yaku = eqb holder feeder || not (eqb yaku 28 || eqb yaku 29) || is_set (feeder_at l (feeder_index holder yaku))

-- 21: "A riichi by a seat with under 1,000 points .. ; 1,000 exactly is enough" (02, S-11)
abbrev pub lacks_stick : Position → ℕ → Bool
lacks_stick l seat = lt_z (score_at l seat) (pos 1000)

-- "Where refusals meet a booking by the ledger's fields": the refusals of each booking, in the order in which the papers list them; `shut` says that the
-- game isn't open, which is refused with 9.
-- Of a draw "12 is never given now" (02, S-7); of a multiple ron "After 9 it refuses with 17 an empty set or one over three, then ..." (02, S-6)
unfoldable pub refusals_of : Bool → Position → Booking → List (Bool × ℕ)
refusals_of shut l (riichi seat) = (ltb 3 seat, 8) ∷ (shut, 9) ∷ (is_declared l seat, 10) ∷ (lacks_stick l seat, 21) ∷ []
refusals_of shut l (pao holder feeder yaku) = (ltb 3 holder || ltb 3 feeder, 8) ∷ (shut, 9) ∷ (wrong_pao l holder feeder yaku, 18) ∷ []
refusals_of shut l (result (win s)) = (shut, 9) ∷ win_refusals l s
refusals_of shut l (result (draw bits)) = (ltb 15 bits, 8) ∷ (shut, 9) ∷ []
refusals_of shut l (result (chombo seat)) = (ltb 3 seat, 8) ∷ (shut, 9) ∷ []
refusals_of shut l (result (multi_ron number s)) =
    let rs = records_of number s in
    (shut, 9) ∷ (eqb number 0 || ltb 3 number, 17) ∷ handed_on (first_unreadable rs) ∷ (not_on_one_tile rs, 17) ∷ record_refusals l rs

-- "the first listed is its number", by a position alone, which is open or not; 0 where none meets it
unfoldable pub refusal_for : Position → Booking → ℕ
refusal_for l b = first_of (refusals_of (not_open l) l b)

-- ---- what an accepted booking does

-- what it gives each seat, or takes; the sticks that it leaves on the table; the seats that are declared after it; whether it finishes the hand, and whether
-- the deal passes; the counter and the feeders that it leaves
pub record Effect : Type 0 where
  pub gives : ℕ → ℤ
  pub sticks : ℕ
  pub declared : ℕ → Bool
  pub finishes : Bool
  pub passes : Bool
  pub counter : ℕ
  pub feeders : List ℕ

-- "Win, draw and chombo each finish a hand and clear declarations"; "The booking lapses when the hand is finished" (02, S-8)
abbrev pub finishing : (ℕ → ℤ) → ℕ → Bool → ℕ → Effect
finishing gives sticks passes counter =
    record { gives = gives; sticks = sticks; declared = λ i. false; finishes = true; passes = passes; counter = counter; feeders = replicate 8 0 }

-- the hand goes on: the deal and the counter stay
abbrev pub going : Position → (ℕ → ℤ) → ℕ → (ℕ → Bool) → List ℕ → Effect
going l gives sticks declared feeders =
    record { gives = gives; sticks = sticks; declared = declared; finishes = false; passes = false; counter = l.counter; feeders = feeders }

-- "riichi costs the seat 1,000"
unfoldable pub riichi_gives : ℕ → ℕ → ℤ
riichi_gives seat i = cond (eqb i seat) (neg_ℤ (pos 1000)) (pos 0)

-- the winner gets what the others pay, p being what a seat pays
unfoldable pub paid_by_others : ℕ → (ℕ → ℕ) → ℕ → ℤ
paid_by_others winner p i = cond (eqb i winner) (pos (sum 4 (λ j. cond (eqb j winner) 0 (p j)))) (neg_ℤ (pos (p i)))

-- who is liable for a win's yaku (02, S-8): nobody, or the feeder that is named
pub data Liable : Type 0 where
  nobody : Liable
  the_feeder : ℕ → Liable

-- what seat i, another than the winner, owes at a win with n counters, by who is liable and whether it is a ron. By the reported reading alone it pays
-- `taken i`; a yakuman gives the winner `whole`
module _ (taken : ℕ → ℕ) (discarder whole n : ℕ) where
  -- "A ron payer pays 300 more for each counter, and on tsumo each payer pays 100 more" (02, S-5);
  -- "On ron the feeder and the discarder pay half each, the discarder paying the counters; if they are one seat it pays all" (02, S-8; 004, article 67);
  -- "the feeder pays the whole on tsumo, counters included"
  unfoldable pub owes : Liable → Bool → ℕ → ℕ
  owes nobody true i = taken i + cond (eqb i discarder) (300 * n) 0
  owes nobody false i = taken i + 100 * n
  owes (the_feeder x) true i = cond (eqb i x) (whole / 2) 0 + cond (eqb i discarder) (whole / 2 + 300 * n) 0
  owes (the_feeder x) false i = cond (eqb i x) (whole + 300 * n) 0

-- who a position says is liable: at an index it holds 0, or 1 + the feeder that is named
abbrev pub liable_by : ℕ → Liable
liable_by zero = nobody
liable_by (suc x) = the_feeder x

-- "If the holder then wins with that yaku reported (for 29, with four wind triplets, not three and a pair)" (02, S-8)
abbrev pub liable_in : Position → ℕ → Bool → Bool → Liable
liable_in l winner dragons winds =
    cond dragons (liable_by (feeder_at l (feeder_index winner 28))) (cond winds (liable_by (feeder_at l (feeder_index winner 29))) nobody)

-- what a yakuman gives the winner: "Yakuman 8,000"; "ron, 4A to a child, 6A to the dealer", and on tsumo "children A, dealer 2A" or "2A each",
-- the same in all (01, Fu and points)
abbrev pub whole_of : Bool → ℕ
whole_of dealers = cond dealers 48000 32000

-- "dealer's win"; any other is "a child's win"
abbrev pub is_dealers_win : Position → List ℕ → Bool
is_dealers_win l s = eqb (hand_for s).fields.winner l.dealer

-- "A win gives the four changes of the reported reading"; "document 01's plus this addition" (02, S-5); "compared with article 67" (02, S-8): what seat i
-- gets, or pays where it is negative, at a win with record s that scores v, with four wind triplets or not, and with n counters, sticks left out; by v alone
-- a seat pays the size of its change
unfoldable pub payments : Position → List ℕ → Scored → Bool → ℕ → ℕ → ℤ
payments l s v four_winds n =
    let f = (hand_for s).fields in
    let liable = liable_in l f.winner (get_or v.yaku 28 false) (get_or v.yaku 29 false && four_winds) in
    paid_by_others f.winner (owes (λ i. nat_abs (get_or v.changes i (pos 0))) f.discarder (whole_of (is_dealers_win l s)) n liable (is_ron f))

-- each wind is held three times or more; with 29 reported these are "four wind triplets", as `winds_of_reading` of Claims says
abbrev pub holds_four_winds : Hand → Bool
holds_four_winds h = all 4 (λ w. leb 3 (get_or (hand_tally h) (27 + w) 0))

-- what a win with record s gives seat i, "by the ledger's dealer and wind, and the winner 1,000 a stick", the winner taking n counters and k sticks
unfoldable pub win_gives : Position → List ℕ → ℕ → ℕ → ℕ → ℤ
win_gives l s n k i =
    payments l s (scored_for l s) (holds_four_winds (hand_for s)) n i +ℤ cond (eqb i (hand_for s).fields.winner) (pos (1000 * k)) (pos 0)

-- what all records give it: "all against the game as it was before. Sticks and counters go to the first winner in turn order after the discarder" (02, S-6)
unfoldable pub multi_ron_gives : Position → ℕ → List (List ℕ) → ℕ → ℤ
multi_ron_gives l first [] i = pos 0
multi_ron_gives l first (s ∷ ss) i =
    let foremost = eqb (hand_for s).fields.winner first in
    win_gives l s (cond foremost l.counter 0) (cond foremost l.sticks 0) i +ℤ multi_ron_gives l first ss i

-- "r ready": how many seats
abbrev pub ready_seats : ℕ → ℕ
ready_seats bits = count 4 (is_ready bits)

-- "A draw with r ready, 1 to 3, costs each other seat 3,000/(4 − r) and gives each ready one 3,000/r; else no points move"
abbrev pub share_of : ℕ → Bool → ℤ
share_of r ready = cond (eqb r 0 || eqb r 4) (pos 0) (cond ready (pos (3000 / r)) (neg_ℤ (pos (3000 / (4 - r)))))

-- what a draw gives seat i
unfoldable pub draw_gives : ℕ → ℕ → ℤ
draw_gives bits i = share_of (ready_seats bits) (is_ready bits i)

-- "each such seat pays 3,000 to every other seat" (02, S-7): what seat i pays seat j, `fined` being the seats that pay
abbrev pub fine_paid : (ℕ → Bool) → ℕ → ℕ → ℕ
fine_paid fined i j = cond (not (eqb i j) && fined i) 3000 0

-- what seat i gets of the others less what it pays them, "two such seats paying each other" (02, S-7)
unfoldable pub fine_of : (ℕ → Bool) → ℕ → ℤ
fine_of fined i = pos (sum 4 (λ j. fine_paid fined j i)) +ℤ neg_ℤ (pos (sum 4 (fine_paid fined i)))

-- what a chombo gives seat i: its fine, and "each declared seat gets 1,000 back"; of one seat it "costs the seat 9,000 and gives each other
-- seat 3,000", as `chombo_costs_9000` of crate `game_rules` says
unfoldable pub chombo_gives : Position → (ℕ → Bool) → ℕ → ℤ
chombo_gives l fined i = fine_of fined i +ℤ cond (is_declared l i) (pos 1000) (pos 0)

-- of a chombo "a stick less for each" declared seat; "the deal and counter stay, and the hand is finished" (02, S-7)
abbrev pub chombo_of : Position → (ℕ → Bool) → Effect
chombo_of l fined = finishing (chombo_gives l fined) (l.sticks - declarations l) false l.counter

-- of a draw that is no chombo: the sticks stay, "The deal passes on .. a draw with the dealer not ready", the counter "rises by one at .. each draw" (02, S-5)
abbrev pub draw_of : Position → ℕ → Effect
draw_of l bits = finishing (draw_gives bits) l.sticks (not (is_ready bits l.dealer)) (l.counter + 1)

-- seat i is "Declared, yet not ready" (02, S-7)
abbrev pub is_at_fault : Position → ℕ → ℕ → Bool
is_at_fault l bits i = is_declared l i && not (is_ready bits i)

-- riichi "adds a stick and declares the seat"; a win "leaving none"; "A draw in which a declared seat isn't ready" is "a chombo" of "each such seat" (02, S-7);
-- "The deal passes on a child's win or a draw with the dealer not ready";
-- the counter "rises by one at each dealer's win and each draw, returns to 0 at a child's win, and isn't touched by a chombo" (02, S-5);
-- pao "names holder, feeder and yaku" (02, S-8);
-- of a multiple ron "If the dealer is a winner the deal stays and the counter rises; otherwise the deal passes and the counter clears" (02, S-6)
unfoldable pub effect_of : Position → Booking → Effect
effect_of l (riichi seat) = going l (riichi_gives seat) (l.sticks + 1) (λ i. eqb i seat || is_declared l i) l.feeders
effect_of l (result (win s)) = finishing (win_gives l s l.counter l.sticks) 0 (not (is_dealers_win l s)) (cond (is_dealers_win l s) (l.counter + 1) 0)
effect_of l (result (draw bits)) = cond (any 4 (is_at_fault l bits)) (chombo_of l (is_at_fault l bits)) (draw_of l bits)
effect_of l (result (chombo seat)) = chombo_of l (λ i. eqb i seat)
effect_of l (pao holder feeder yaku) = going l (λ i. pos 0) l.sticks (is_declared l) (set l.feeders (feeder_index holder yaku) (1 + feeder))
effect_of l (result (multi_ron number s)) =
    let rs = records_of number s in
    finishing (multi_ron_gives l (first_winner rs) rs) 0 (not (is_winner rs l.dealer)) (cond (is_winner rs l.dealer) (l.counter + 1) 0)

-- ---- the fields after it

-- the deal is at "South's seat 3"
abbrev pub is_last : Position → Bool
is_last l = eqb l.wind 1 && eqb l.dealer 3

-- the position after a booking that does e
unfoldable pub applied : Position → Effect → Position
applied l e =
    let hands = cond e.finishes (l.hands + 1) l.hands in
    record {
      scores = tabulate 4 0 (λ i. score_at l i +ℤ e.gives i);
      sticks = e.sticks;
      declared = tabulate 4 0 (λ i. mark (e.declared i));
      -- "The deal passes" to the next in "turn order"; "after South's seat 3 .. dealer and wind staying"
      dealer = cond (e.passes && not (is_last l)) ((l.dealer + 1) % 4) l.dealer;
      -- "after seat 3 the wind turns South"
      wind = cond (e.passes && eqb l.dealer 3) 1 l.wind;
      hands = hands;
      -- "after South's seat 3 the game is marked over"; "it is marked so at 200 finished hands too, the deal passing as usual"
      over = mark ((e.passes && is_last l) || eqb hands last_hand);
      counter = e.counter;
      feeders = e.feeders;
    }

-- ---- the ledger after any booking, and after a list

-- "the first listed is its number and the ledger stays. Otherwise ..."
unfoldable pub after : Position → Booking → Position
after l b = cond (ltb 0 (refusal_for l b)) l (applied l (effect_of l b))

-- booking b in position p gives the refusal n and leaves the position p'
abbrev pub Moves : Position → Booking → ℕ → Position → Type 0
Moves p b n p' = (n ≡ refusal_for p b) × (p' ≡ after p b)

-- after each of a list, from l on
unfoldable pub ledger_from : Position → List Booking → Position
ledger_from l [] = l
ledger_from l (b ∷ bs) = ledger_from (after l b) bs

-- "fresh at first"
unfoldable pub ledger : List Booking → Position
ledger bs = ledger_from fresh bs

-- "all that the rules give or take for the bookings accepted": all that seat i is given from l on
unfoldable pub given_from : Position → List Booking → ℕ → ℤ
given_from l [] i = pos 0
given_from l (b ∷ bs) i = cond (ltb 0 (refusal_for l b)) (pos 0) ((effect_of l b).gives i) +ℤ given_from (after l b) bs i
