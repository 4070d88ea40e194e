-- Dealer, wind, hands and mark after a booking: names for what `applied` has of each.
use Rattle.std.specs.Prelude.{Bool, ◌&&◌, ◌||◌, not, cond, ℕ, ◌+◌, ◌%◌, eqb}
use Rattle.position.specs.declared.Position.{Position}
use Rattle.position.specs.Ledger.{last_hand, is_last, Effect}

abbrev pub dealer_after : Position → Bool → ℕ
dealer_after l passes = cond (passes && not (is_last l)) ((l.dealer + 1) % 4) l.dealer

abbrev pub wind_after : Position → Bool → ℕ
wind_after l passes = cond (passes && eqb l.dealer 3) 1 l.wind

abbrev pub hands_after : Position → Bool → ℕ
hands_after l finishes = cond finishes (l.hands + 1) l.hands

abbrev pub over_after : Position → Effect → Bool
over_after l e = (e.passes && is_last l) || eqb (hands_after l e.finishes) last_hand
