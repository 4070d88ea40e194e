-- What is shown of a reading (01, Readings; Yaku; Fu and points). Nothing here says how it is found.
use Rattle.std.specs.Prelude.{Bool, cond, List, ◌≡◌, ℕ, ◌-◌, pos, length, get_or, replicate}
use Rattle.units.specs.declared.Points.{Points}
use Rattle.tiles.specs.Kinds.{dora_of}
use Rattle.hand.specs.declared.Hand.{Hand}
use Rattle.hand.specs.Held.{is_closed}
use Rattle.hand.specs.Hand.{is_ron, hand_tally}
use Rattle.reading.specs.declared.Reading.{Reading}
use Rattle.reading.specs.Reading.{of_shape}
use Rattle.yaku.specs.Yaku.{value_han_of, is_yakuman, has_yaku}
use Rattle.points.specs.declared.Seats.{Seats}
use Rattle.points.specs.Points.{changes}
use Rattle.points_value.specs.declared.Value.{Value}
use Rattle.points_value.specs.Han.{han, han_each}
use Rattle.score.specs.declared.Scored.{Scored}
use Rattle.score.specs.Readings.{readings_of}
use Rattle.score.specs.Named.{won_of, seats_of, full_reading_of, worth}
use Rattle.score_readings.specs.declared.Paid.{Paid}
use Rattle.score_readings.specs.declared.NthReading.{NthReading}

-- n points
abbrev pub points : ℕ → Points
points n = record { 0 = n }

-- the n-th of a list, from 1
abbrev pub nth_in : List Reading → ℕ → Reading
nth_in rs n = get_or rs (n - 1) (of_shape 0)

-- "A", the "winner's gain" and the "four changes" of a reading worth v. One without a yaku cannot win ("7, readings but none with a yaku"): nobody pays
unfoldable pub paid_of : Value → Seats → Bool → Paid
paid_of v s ron =
    cond (has_yaku v.yaku) (record { basic = v.basic; gain = v.gain; changes = changes s ron v.basic.0 })
    (record { basic = points 0; gain = points 0; changes = replicate 4 (pos 0) })

-- what is shown of the reading r, worth v, one of `count`: `values` is what yaku 3 counts, `dora` how many are held ("h = yaku han plus dora"); with a
-- yakuman "h and fu are 0", so that none counts
abbrev pub shown_with : ℕ → Reading → Value → ℕ → ℕ → Bool → Seats → Bool → Bool → NthReading
shown_with count r v values dora closed s ron reported = record {
  count = count;
  basic = (paid_of v s ron).basic;
  gain = (paid_of v s ron).gain;
  changes = (paid_of v s ron).changes;
  h = v.han;
  dora = han (cond (is_yakuman v.yaku) 0 dora);
  han = han_each v.yaku closed values;
  refusal = 0;
  shape = r.shape;
  pair = r.pair;
  groups = r.groups;
  place = r.place;
  reported = reported;
  fu = v.fu;
  items = v.items;
  yaku = v.yaku;
}

-- the reading r of a hand
abbrev pub shown_as : Hand → ℕ → ℕ → Reading → Bool → NthReading
shown_as h dealer wind r reported =
    shown_with (length (readings_of h)) r (worth h dealer wind r) (value_han_of (won_of h dealer wind) (full_reading_of h r))
    (get_or (hand_tally h) (dora_of h.fields.indicator) 0) (is_closed h.held) (seats_of h dealer) (is_ron h.fields) reported

-- the reading that an answer shows
abbrev pub reading_in : NthReading → Reading
reading_in a = record { shape = a.shape; pair = a.pair; groups = a.groups; place = a.place }

-- what is shown in a has the figures of the score b
pub record HasFigures (a : NthReading) (b : Scored) : Type 0 where
  pub h : a.h ≡ b.h
  pub fu : a.fu ≡ b.fu
  pub items : a.items ≡ b.items
  pub yaku : a.yaku ≡ b.yaku
  pub changes : a.changes ≡ b.changes
