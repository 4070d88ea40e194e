-- What demand 3 claims of a win, and of a multiple ron (02, S-6).
use Rattle.std.specs.Prelude.{◌≡◌, ◌⊎◌, ◌↔◌, false, cond, List, ℕ, ◌*◌, ◌≤◌, ◌<◌, eqb, ℤ, pos, ◌+ℤ◌}
use Rattle.hand_record.specs.Record.{IsSound}
use Rattle.reading.specs.declared.Reading.{Reading}
use Rattle.reading.specs.All.{Each}
use Rattle.yaku_basics.specs.Tests.{winds}
use Rattle.score.specs.Named.{groups_of, IsReadingOf, ReadsWithYaku, IsReported, gain_in, scored_as}
use Rattle.position.specs.declared.Position.{Position}
use Rattle.position.specs.Booking.{result, win, multi_ron}
use Rattle.hand_rons.specs.Records.{records_of, not_on_one_tile, first_winner}
use Rattle.position.specs.Ledger.{score_at, not_open, hand_for, riichi_mismatch, payments, win_gives, multi_ron_gives, after}

-- ---- a win with record s; l is "the ledger as the win meets it"

module _ (l : Position) (s : List ℕ) where
  -- r is one "of the readings with a yaku" of the record's tiles
  abbrev pub HasYaku : Reading → Type 0
  HasYaku = ReadsWithYaku (hand_for s) l.dealer l.wind

  -- neither Score nor 11 refuses it (01, Win): the record is sound, a reading of its tiles has a yaku, and riichi field and declaration agree
  abbrev pub IsWinning : Type 0
  IsWinning = IsSound s × ((r : Reading) × HasYaku r) × (riichi_mismatch l (hand_for s) ≡ false)

  -- what seat i gets, or pays where it is negative, by reading r with n counters; pao for 29 asks for "four wind triplets, not three and a pair" (02, S-8)
  abbrev pub paid_in : Reading → ℕ → ℕ → ℤ
  paid_in r = payments l s (scored_as (hand_for s) l.dealer l.wind r) (eqb (winds (groups_of (hand_for s) r)) 4)

  -- r is the reported reading (01, Readings), and no reading with a yaku gives the winner more
  abbrev pub IsBest : Reading → Type 0
  IsBest r =
      let gain = gain_in (hand_for s) l.dealer l.wind in
      IsReported (hand_for s) l.dealer l.wind r × ((q : Reading) → HasYaku q → gain q ≤ gain r)

  -- paid by the best reading: what the win gives a seat, with n counters and k sticks, is what that reading gives or takes, "and the winner 1,000 a stick"
  abbrev pub IsPaid : Type 0
  IsPaid =
      (r : Reading) × IsBest r
      × ((n k i : ℕ) → win_gives l s n k i ≡ paid_in r n i +ℤ cond (eqb i (hand_for s).fields.winner) (pos (1000 * k)) (pos 0))

  -- what demand 3 claims of it, where it got the refusal n
  pub record WinBooked (n : ℕ) : Type 0 where
    -- accepted exactly when no refusal meets it
    pub accepted : (n ≡ 0) ↔ ((not_open l ≡ false) × IsWinning)
    -- "Each accepted win was paid by a reading of its tiles that has a yaku, and the winner's gain in it is at least that in every other reading of the same
    -- tiles that has a yaku."
    pub paid : n ≡ 0 → IsPaid × ((i : ℕ) → i < 4 → score_at (after l (result (win s))) i ≡ score_at l i +ℤ win_gives l s l.counter l.sticks i)
    -- "A win of a sound record in an open game was refused for its tiles exactly when no reading of them has a yaku.": with 6 or 7 (01, Score)
    pub tiles : IsSound s → not_open l ≡ false → ((n ≡ 6) ⊎ (n ≡ 7)) ↔ ((r : Reading) → HasYaku r → ⊥)
    -- "6, no reading"; "7, readings but none with a yaku" (01, Score)
    pub six : IsSound s → not_open l ≡ false → (n ≡ 6) ↔ ((r : Reading) → IsReadingOf (hand_for s) r → ⊥)
    pub seven : IsSound s → not_open l ≡ false → (n ≡ 7) ↔ (((r : Reading) × IsReadingOf (hand_for s) r) × ((r : Reading) → HasYaku r → ⊥))

-- ---- a multiple ron (02, S-6), "the set as one booking", that got the refusal n

-- what demand 3 claims of it
pub record MultiRonBooked (l : Position) (number : ℕ) (s : List ℕ) (n : ℕ) : Type 0 where
  -- accepted exactly when no refusal meets it
  pub accepted : let ss = records_of number s in
      (n ≡ 0) ↔ ((not_open l ≡ false) × (0 < number) × (number ≤ 3) × Each (IsWinning l) ss × (not_on_one_tile ss ≡ false))
  -- accepted: "each of the winners has the best reading of that winner's tiles", and each score moved by what all records give or take; what that comes to
  -- for each seat, `multi_ron_pays` of crate `game_rules` says
  pub paid : let ss = records_of number s in
      n ≡ 0 → Each (IsPaid l) ss
      × ((i : ℕ) → i < 4 → score_at (after l (result (multi_ron number s))) i ≡ score_at l i +ℤ multi_ron_gives l (first_winner ss) ss i)
