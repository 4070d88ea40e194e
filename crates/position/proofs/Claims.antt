-- The theorems of the ledger, for every list of bookings from a fresh position; demand 3 stands in crate `game`.
use Rattle.std.specs.Prelude.{◌≡◌, true, false, List, ℕ, ◌≤◌, ◌<◌, eqb, pos, neg_ℤ, get_or}
use Rattle.std.specs.Int.Signed.{lt_z, le_z}
use Rattle.hand.specs.Hand.{is_ron}
use Rattle.hand_record.specs.Record.{IsSound}
use Rattle.hand_record.proofs.Claims.{sound}
use Rattle.reading.specs.declared.Reading.{Reading}
use Rattle.yaku_basics.specs.Tests.{winds}
use Rattle.score.specs.Named.{groups_of, IsReadingOf, IsReported, scored_as}
use Rattle.position.specs.declared.Position.{Position}
use Rattle.position.specs.Booking.{Booking, result, riichi, win, multi_ron}
use Rattle.position.specs.Ledger.{score_at, floor, out_of_form, not_open, hand_for, refusal_for}
use Rattle.position.specs.Ledger.{holds_four_winds, after, ledger}
use Rattle.position.specs.Wins.{HasYaku, paid_in}
use Rattle.position.proofs.laws.Kept as kept
use Rattle.position.proofs.laws.NotReady as not-ready
use Rattle.position.proofs.laws.Tiles as tiles
use Rattle.position.proofs.laws.Winds as by_tiles
use Rattle.position.proofs.laws.Credit as credit
use Rattle.position.proofs.laws.Lowest as lowest
use Rattle.position.proofs.laws.One as one

-- "From a fresh game no score falls under" the floor, which "becomes −28,540,000" (02, S-6), and the game stays in form
pub never_below_floor : (bs : List Booking) → (out_of_form (ledger bs) ≡ false) × ((i : ℕ) → i < 4 → lt_z (score_at (ledger bs) i) floor ≡ false)
never_below_floor = kept.never_below_floor

-- ---- repeat counters (02, S-5)

-- "The counter never exceeds the hands finished"
pub counter_within_hands : (bs : List Booking) → (ledger bs).counter ≤ (ledger bs).hands
counter_within_hands = kept.counter_within_hands

-- "which is equal for every reading of the tiles, so the best one stays best": with n counters no reading with a yaku gives the winner more than the
-- reported one
pub counters_keep_best : (l : Position) (s : List ℕ) → not_open l ≡ false → IsSound s → (r q : Reading)
    → IsReported (hand_for s) l.dealer l.wind r → HasYaku l s q → (n : ℕ)
    → let winner = (hand_for s).fields.winner in le_z (paid_in l s q n winner) (paid_in l s r n winner) ≡ true
counters_keep_best = tiles.best_with_counters

-- ---- declared, yet not ready (02, S-7)

-- "12 is never given now"
pub never_12 : (l : Position) (b : Booking) → refusal_for l b ≡ 12 → ⊥
never_12 = not-ready.never_12

-- ---- who fed the dragons (02, S-8)

module _ (s : List ℕ) (dealer wind : ℕ) (r : Reading) where
  -- "with four wind triplets, not three and a pair": by the tiles, as the ledger has it, and in every reading with 29
  pub winds_of_reading : IsSound s → IsReadingOf (hand_for s) r → get_or (scored_as (hand_for s) dealer wind r).yaku 29 false ≡ true
      → holds_four_winds (hand_for s) ≡ eqb (winds (groups_of (hand_for s) r)) 4
  winds_of_reading i = by_tiles.winds_by_tiles s ((sound s).0 i) dealer wind r

  -- 28 and 29 are never both reported, so that no other feeder is passed over
  pub never_both : let yaku = (scored_as (hand_for s) dealer wind r).yaku in get_or yaku 28 false ≡ true → get_or yaku 29 false ≡ true → ⊥
  never_both = by_tiles.not_both (hand_for s) dealer wind r

-- ---- two or three rons on one tile (02, S-6)

-- one record is the same as Win of it, where it is a ron
pub one_is_win : (l : Position) (s : List ℕ) → is_ron (hand_for s).fields ≡ true
    → (refusal_for l (result (multi_ron 1 s)) ≡ refusal_for l (result (win s))) × (after l (result (multi_ron 1 s)) ≡ after l (result (win s)))
one_is_win = one.one_is_win

-- ---- no stick, no riichi (02, S-11)

-- "Clubs have dropped riichi on credit": an accepted riichi leaves the seat 0 or more
pub never_on_credit : (l : Position) (seat : ℕ) → refusal_for l (riichi seat) ≡ 0 → lt_z (score_at (after l (riichi seat)) seat) (pos 0) ≡ false
never_on_credit = credit.never_on_credit

-- and no score falls under −28,341,000, which program `floor` reaches: the floor stays as a bound
pub lowest_score : (bs : List Booking) (i : ℕ) → i < 4 → lt_z (score_at (ledger bs) i) (neg_ℤ (pos 28341000)) ≡ false
lowest_score = lowest.never_below_lowest
