-- What the settling of several hands comes to, for each list of records that reads as them.
use Rattle.std.specs.Prelude.{◌≡◌, cond, Result, IfOk, List, map, ℕ, ◌<◌, ltb, get_or, take}
use Rattle.refusals.specs.declared.Refusal.{Refusal}
use Rattle.refusals.specs.Refusal.{refusal_in}
use Rattle.tiles.specs.Below.{tabulate}
use Rattle.hand.specs.declared.Hand.{Hand}
use Rattle.hand_record.specs.search.Bounds.{Bounds}
use Rattle.hand_rons.specs.Records.{hand_for, records_of, first_unreadable}
use Rattle.hand_rons.proofs.laws.Hands.{blank}
use Rattle.position.specs.declared.Position.{Position}
use Rattle.position.specs.Booking.{result, multi_ron}
use Rattle.position.specs.Ledger.{multi_ron_gives, effect_of, applied}
use Rattle.position.specs.search.First.{first_refused}
use Rattle.position_win.specs.declared.Settled.{Settled}

-- the first n of the hands hs are within Read's ranges
abbrev pub AllBounds : ℕ → List Hand → Type 0
AllBounds n hs = (i : ℕ) → i < n → Bounds (get_or hs i blank)

-- what records rs come to, x being the first winner
abbrev pub SettlesAll : Position → ℕ → List (List ℕ) → Result Settled Refusal → Type 0
SettlesAll g x rs r = (refusal_in r ≡ first_refused g rs) × IfOk r (λ t. t.gives ≡ tabulate 4 0 (multi_ron_gives g x rs))

-- of rons on one tile that read, in an open position
abbrev pub RonsBooked : Position → ℕ → List ℕ → ℕ → Position → Type 0
RonsBooked g number s n k =
    let refusal = first_refused g (records_of number s) in
    (n ≡ refusal) × (k ≡ cond (ltb 0 refusal) g (applied g (effect_of g (result (multi_ron number s)))))

-- of each list of bytes whose records read as the hands hs
abbrev pub BooksHands : Position → ℕ → List Hand → ℕ → Position → Type 0
BooksHands g number hs n k =
    (s : List ℕ) → first_unreadable (records_of number s) ≡ 0 → map hand_for (records_of number s) ≡ take number hs → RonsBooked g number s n k
