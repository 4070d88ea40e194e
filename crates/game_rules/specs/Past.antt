-- What has happened at a table: the past. It is "the bookings left standing" (02, S-10), the latest first: those that were accepted, without each that a
-- correction superseded. Nothing here looks at a position.
use Rattle.std.specs.Prelude.{Bool, true, false, ◌&&◌, ◌||◌, not, cond, List, [], ◌∷◌, ℕ, ◌+◌, ◌%◌, ltb, eqb}
use Rattle.tiles.specs.Below.{any, count}
use Rattle.hand_rons.specs.Records.{records_of, is_winner}
use Rattle.position.specs.Booking.{Booking, result, riichi, pao, win, draw, chombo, multi_ron}
use Rattle.position.specs.Ledger.{is_ready}

-- f added up over the bookings of a past after the latest one that has `last`; both are asked of a booking and the past before it
unfoldable pub sum_since : (Booking → List Booking → Bool) → (Booking → List Booking → ℕ) → List Booking → ℕ
sum_since last f [] = 0
sum_since last f (b ∷ past) = cond (last b past) 0 (f b past + sum_since last f past)

-- how many of them have p
abbrev pub count_since : (Booking → List Booking → Bool) → (Booking → List Booking → Bool) → List Booking → ℕ
count_since last p = sum_since last (λ b past. cond (p b past) 1 0)

-- ---- the hand that is played

-- "Win, draw and chombo each finish a hand" (01, The game), and a multiple ron, which books wins (02, S-6)
abbrev pub is_result : Booking → List Booking → Bool
is_result (result r) past = true
is_result (riichi seat) past = false
is_result (pao holder feeder yaku) past = false

-- a riichi of this seat
abbrev pub is_riichi_of : ℕ → Booking → List Booking → Bool
is_riichi_of i (riichi seat) past = eqb i seat
is_riichi_of i (pao holder feeder yaku) past = false
is_riichi_of i (result r) past = false

-- a pao of this holder, feeder and yaku
abbrev pub is_pao_of : ℕ → ℕ → ℕ → Booking → List Booking → Bool
is_pao_of h f y (pao holder feeder yaku) past = eqb h holder && eqb f feeder && eqb y yaku
is_pao_of h f y (riichi seat) past = false
is_pao_of h f y (result r) past = false

-- "declared already this hand": the past has a riichi of seat i since the last finished hand
abbrev pub has_declared : List Booking → ℕ → Bool
has_declared past i = ltb 0 (count_since is_result (is_riichi_of i) past)

-- "A new booking names holder, feeder and yaku"; "The booking lapses when the hand is finished" (02, S-8): the past has it since the last finished hand
abbrev pub has_named : List Booking → ℕ → ℕ → ℕ → Bool
has_named past holder feeder yaku = ltb 0 (count_since is_result (is_pao_of holder feeder yaku) past)

-- "finished hands": how many results the past has
abbrev pub hands_in : List Booking → ℕ
hands_in past = count_since (λ b before. false) is_result past

-- ---- the deal and the counter

-- the records of the wins that are booked: "Win (record)"; "One booking takes one to three win records" (02, S-6)
abbrev pub records_in : Booking → List (List ℕ)
records_in (result (win s)) = s ∷ []
records_in (result (multi_ron number s)) = records_of number s
records_in (result (draw bits)) = []
records_in (result (chombo seat)) = []
records_in (riichi seat) = []
records_in (pao holder feeder yaku) = []

-- seat i wins
abbrev pub has_won : Booking → ℕ → Bool
has_won b i = is_winner (records_in b) i

-- a win
abbrev pub is_win : Booking → List Booking → Bool
is_win b past = any 4 (has_won b)

-- a chombo, or "A draw in which a declared seat isn't ready", which is one (02, S-7)
abbrev pub is_chombo : Booking → List Booking → Bool
is_chombo (result (chombo seat)) past = true
is_chombo (result (draw bits)) past = any 4 (λ i. has_declared past i && not (is_ready bits i))
is_chombo (result (win s)) past = false
is_chombo (result (multi_ron number s)) past = false
is_chombo (riichi seat) past = false
is_chombo (pao holder feeder yaku) past = false

-- a draw that is no chombo, its four bits having p
abbrev pub is_draw : (ℕ → Bool) → Booking → List Booking → Bool
is_draw p (result (draw bits)) past = p bits && not (is_chombo (result (draw bits)) past)
is_draw p (result (win s)) past = false
is_draw p (result (chombo seat)) past = false
is_draw p (result (multi_ron number s)) past = false
is_draw p (riichi seat) past = false
is_draw p (pao holder feeder yaku) past = false

-- "a child's win", with this dealer
abbrev pub is_childs_win : ℕ → Booking → List Booking → Bool
is_childs_win dealer b past = is_win b past && not (has_won b dealer)

-- "The deal passes on a child's win or a draw with the dealer not ready"; "If the dealer is a winner the deal stays" (02, S-6)
abbrev pub has_passed : ℕ → Booking → List Booking → Bool
has_passed dealer b past = is_childs_win dealer b past || is_draw (λ bits. not (is_ready bits dealer)) b past

-- how often it has passed. "seat 0 deals first", the others "in turn order", so that the dealer then is this number mod 4
unfoldable pub passes_in : List Booking → ℕ
passes_in [] = 0
passes_in (b ∷ past) = passes_in past + cond (has_passed (passes_in past % 4) b past) 1 0

-- who deals then
abbrev pub dealer_in : List Booking → ℕ
dealer_in past = passes_in past % 4

-- the counter "rises by one at each dealer's win and each draw, returns to 0 at a child's win, and isn't touched by a chombo" (02, S-5)
abbrev pub counters_in : List Booking → ℕ
counters_in past =
    count_since (λ b before. is_childs_win (dealer_in before) b before) (λ b before. has_won b (dealer_in before) || is_draw (λ bits. true) b before) past

-- ---- the sticks

-- riichi "adds a stick": how many the past has since the last win, which takes "all sticks"
abbrev pub sticks_put : List Booking → ℕ
sticks_put past = count_since is_win (λ b before. any 4 (λ i. is_riichi_of i b before)) past

-- of a chombo "this hand's sticks go back to their owners": how many went back since the last win
abbrev pub sticks_returned : List Booking → ℕ
sticks_returned past = sum_since is_win (λ b before. cond (is_chombo b before) (count 4 (has_declared before)) 0) past
