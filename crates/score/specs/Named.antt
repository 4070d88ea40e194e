-- What the papers name as the score of a sound hand (01, Readings and Score; 02, S-3 and S-4). Nothing here says how it is found.
use Rattle.std.specs.Prelude.{Bool, true, false, ◌&&◌, cond, List, ◌++◌, map, ◌≡◌, ℕ, ◌+◌, ◌-◌, ◌%◌, eqb, pos, length, take, replicate}
use Rattle.tiles.specs.Below.{tabulate}
use Rattle.tiles.specs.Kinds.{dora_of}
use Rattle.hand.specs.declared.Hand.{Hand}
use Rattle.hand.specs.Held.{is_closed}
use Rattle.hand.specs.Hand.{is_ron, concealed_tally, hand_tally}
use Rattle.reading.specs.declared.Reading.{Reading}
use Rattle.reading.specs.Reading.{IsReading}
use Rattle.yaku_basics.specs.Melds.{meld_code, meld_way}
use Rattle.yaku.specs.declared.Won.{Won}
use Rattle.yaku.specs.declared.FullReading.{FullReading}
use Rattle.points.specs.declared.Seats.{Seats}
use Rattle.points.specs.Points.{changes}
use Rattle.points_value.specs.declared.Value.{Value}
use Rattle.points_fu.specs.Fu.{fu, base_alone}
use Rattle.points_value.specs.Value.{value_of}
use Rattle.score_best.specs.Best.{with_yaku, Over, with_yakuman, up_to}
use Rattle.score.specs.declared.Scored.{Scored}
use Rattle.score.specs.Readings.{readings_of}

-- ---- the hand at the table

-- how the hand was won: "Seat wind is (seat − dealer) mod 4 counted from East"; the round wind's kind: "0 East, 1 South"
unfoldable pub won_of : Hand → ℕ → ℕ → Won
won_of h dealer wind = record {
  tally = hand_tally h;
  win = h.fields.winning;
  round = 27 + wind;
  own = 27 + (h.fields.winner + 4 - dealer) % 4;
  riichi = h.fields.riichi;
  situation = h.fields.situation;
  ron = is_ron h.fields;
  closed = is_closed h.held;
  meldless = eqb h.held.m 0;
}

-- who wins, who deals, who discards (01, Fu and points: "ron, 4A to a child, 6A to the dealer")
abbrev pub seats_of : Hand → ℕ → Seats
seats_of h dealer = record { winner = h.fields.winner; dealer = dealer; discarder = h.fields.discarder }

-- ---- what a reading is worth

-- the groups that yaku and fu go by: the "4 − m groups" of the reading in its order, then those of the m melds in the record's
-- ("run: lowest kind; triplet: 34 + kind")
unfoldable pub groups_of : Hand → Reading → List ℕ
groups_of h r = take (4 - h.held.m) r.groups ++ map meld_code (take h.held.m h.held.melds)

-- the way of each: "A triplet completed by ron is open; other concealed triplets and closed kans are concealed" (0 concealed, 1 open, 2 open kan, 3 closed kan)
unfoldable pub ways_of : Hand → Reading → List ℕ
ways_of h r = tabulate (4 - h.held.m) 0 (λ i. cond (is_ron h.fields && eqb r.place (i + 1)) 1 0) ++ map meld_way (take h.held.m h.held.melds)

-- the reading with the melds
unfoldable pub full_reading_of : Hand → Reading → FullReading
full_reading_of h r = record { shape = r.shape; pair = r.pair; groups = groups_of h r; ways = ways_of h r; place = r.place }

-- its yaku, h, fu item by item and "winner's gain" (01, Yaku; Fu and points); "Dora is the kind after the indicator"
unfoldable pub worth : Hand → ℕ → ℕ → Reading → Value
worth h dealer wind r = value_of (won_of h dealer wind) (full_reading_of h r) (dora_of h.fields.indicator) (seats_of h dealer)

-- ---- what is answered

-- "Refused: all zero"
abbrev pub refused_with : ℕ → Scored
refused_with n =
    record { refusal = n; h = record { 0 = 0 }; fu = fu 0; items = base_alone 0; yaku = replicate 37 false; tried = 0; changes = replicate 4 (pos 0) }

-- "Accepted: h, fu, yaku set, four changes"; "The fu count must give its items" (02, S-3); "how many readings it tried" (02, S-4)
abbrev pub accepted_as : Value → Seats → Bool → ℕ → Scored
accepted_as v s ron tried =
    record { refusal = 0; h = v.han; fu = v.fu; items = v.items; yaku = v.yaku; tried = tried; changes = changes s ron v.basic.0 }

-- ---- what the papers name for a sound hand

-- r is "a reading of the concealed tiles with the winning tile"
abbrev pub IsReadingOf : Hand → Reading → Type 0
IsReadingOf h r = IsReading (concealed_tally h) h.held.m h.fields.winning r

module _ (h : Hand) (dealer wind : ℕ) where
  -- r is one "of the readings with a yaku"
  abbrev pub ReadsWithYaku : Reading → Type 0
  ReadsWithYaku r = IsReadingOf h r × (with_yaku (worth h dealer wind) r ≡ true)

  -- "Of the readings with a yaku, the first with the highest winner's gain, then highest h, then fu, is reported"
  pub record IsReported (r : Reading) : Type 0 where
    pub yaku : ReadsWithYaku r
    pub first : (q : Reading) → ReadsWithYaku q → Over (worth h dealer wind) r q

  -- the winner's gain in r (01, Fu and points: "A reading's gain")
  abbrev pub gain_in : Reading → ℕ
  gain_in r = (worth h dealer wind r).gain.0

  -- "how many readings it tried, those with no yaku and each place in equal groups counted: up to that one, it included, or all where there is none":
  -- of all readings in order, those up to "the first yakuman reading" (02, S-4)
  abbrev pub tried_in : ℕ
  tried_in = length (up_to (with_yakuman (worth h dealer wind)) (readings_of h))

  -- r reported: its h, fu with the items, yaku and changes, and how many were tried
  abbrev pub scored_as : Reading → Scored
  scored_as r = accepted_as (worth h dealer wind r) (seats_of h dealer) (is_ron h.fields) tried_in

  -- accepted; "6, no reading"; "7, readings but none with a yaku"
  pub data Named : Scored → Type 0 where
    reported : (r : Reading) → IsReported r → Named (scored_as r)
    six : ((q : Reading) → IsReadingOf h q → ⊥) → Named (refused_with 6)
    seven : (q : Reading) → IsReadingOf h q → ((r : Reading) → ReadsWithYaku r → ⊥) → Named (refused_with 7)
