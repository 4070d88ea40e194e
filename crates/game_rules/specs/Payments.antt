-- Who pays what, seat by seat and case by case (01, Fu and points, Ledger; 02, S-5 to S-8).
use Rattle.std.specs.Prelude.{◌≡◌, Bool, true, false, ◌&&◌, not, cond, ◌⊎◌, List, [], ◌∷◌, ℕ, ◌+◌, ◌*◌, ◌<◌, eqb, ℤ, pos, neg_ℤ, ◌+ℤ◌, get_or}
use Rattle.hand.specs.declared.Fields.{Fields}
use Rattle.hand.specs.Hand.{is_ron}
use Rattle.reading.specs.declared.Reading.{Reading}
use Rattle.yaku_basics.specs.Tests.{winds}
use Rattle.points.specs.Points.{hundreds}
use Rattle.points_value.specs.declared.Value.{Value}
use Rattle.score.specs.Named.{groups_of, worth}
use Rattle.position.specs.declared.Position.{Position}
use Rattle.position.specs.Ledger.{mark, hand_for, is_declared, is_ready, ready_seats, feeder_index, feeder_at, whole_of, is_dealers_win, win_gives}
use Rattle.position.specs.Article67.{Article67}

-- ---- a win

-- the win of record s in position l, by reading r
module _ (l : Position) (s : List ℕ) (r : Reading) where
  -- the fields of its record
  abbrev f : Fields
  f = (hand_for s).fields

  -- what the reading is worth
  abbrev value : Value
  value = worth (hand_for s) l.dealer l.wind r

  -- "If the holder then wins with that yaku reported (for 29, with four wind triplets, not three and a pair)" (02, S-8): this feeder is named for it
  abbrev pub IsLiable : ℕ → Type 0
  IsLiable feeder =
      ((get_or value.yaku 28 false ≡ true) × (feeder_at l (feeder_index f.winner 28) ≡ 1 + feeder))
      ⊎ ((get_or value.yaku 29 false ≡ true) × (winds (groups_of (hand_for s) r) ≡ 4) × (feeder_at l (feeder_index f.winner 29) ≡ 1 + feeder))

  -- nobody is named for it
  abbrev pub NoneLiable : Type 0
  NoneLiable = (feeder : ℕ) → IsLiable feeder → ⊥

  -- what it gives each seat with n counters, sticks left out
  pub record WhoPays (n : ℕ) (gives : ℕ → ℤ) : Type 0 where
    -- the discarder pays: "ron, 4A to a child, 6A to the dealer"; "A ron payer pays 300 more for each counter" (02, S-5); and nobody else does
    pub ron : NoneLiable → is_ron f ≡ true → (i : ℕ) → i < 4 → (i ≡ f.winner → ⊥)
        → gives i ≡ neg_ℤ (pos (cond (eqb i f.discarder) (hundreds (cond (eqb f.winner l.dealer) 6 4 * value.basic.0) + 300 * n) 0))
    -- "dealer tsumo, 2A each"; "on tsumo each payer pays 100 more" (02, S-5)
    pub dealers_tsumo : NoneLiable → is_ron f ≡ false → f.winner ≡ l.dealer
        → (i : ℕ) → i < 4 → (i ≡ f.winner → ⊥) → gives i ≡ neg_ℤ (pos (hundreds (2 * value.basic.0) + 100 * n))
    -- "child tsumo, children A, dealer 2A"
    pub childs_tsumo : NoneLiable → is_ron f ≡ false → (f.winner ≡ l.dealer → ⊥)
        → (i : ℕ) → i < 4 → (i ≡ f.winner → ⊥) → gives i ≡ neg_ℤ (pos (hundreds (cond (eqb i l.dealer) 2 1 * value.basic.0) + 100 * n))
    -- article 67 (02, S-8)
    pub with_pao : (feeder : ℕ) → IsLiable feeder → Article67 f.winner f.discarder feeder (is_ron f) (whole_of (is_dealers_win l s)) (300 * n) gives
    -- the winner gets what the others pay
    pub zero : gives 0 +ℤ gives 1 +ℤ gives 2 +ℤ gives 3 ≡ pos 0

-- ---- a multiple ron (02, S-6)

-- what the records give seat i, each alone: without counters and sticks
abbrev pub each_alone : Position → List (List ℕ) → ℕ → ℤ
each_alone l [] i = pos 0
each_alone l (s ∷ ss) i = win_gives l s 0 0 i +ℤ each_alone l ss i

-- ---- a draw

-- "A draw in which a declared seat isn't ready" (02, S-7): seat i is such a seat
abbrev pub declared_not_ready : Position → ℕ → ℕ → Bool
declared_not_ready l bits i = is_declared l i && not (is_ready bits i)

-- "four bits, seat 0 first, set for ready": the number of a draw, by which seats are ready
abbrev pub bits_by : (ℕ → Bool) → ℕ
bits_by ready = 8 * mark (ready 0) + 4 * mark (ready 1) + 2 * mark (ready 2) + mark (ready 3)

-- "With 1 to 3 ready, the others pay 3,000 in all, equally, shared equally (71)": a draw gives seat i the points x
pub record DrawPays (bits i : ℕ) (x : ℤ) : Type 0 where
  pub one : ready_seats bits ≡ 1 → x ≡ cond (is_ready bits i) (pos 3000) (neg_ℤ (pos 1000))
  pub two : ready_seats bits ≡ 2 → x ≡ cond (is_ready bits i) (pos 1500) (neg_ℤ (pos 1500))
  pub three : ready_seats bits ≡ 3 → x ≡ cond (is_ready bits i) (pos 1000) (neg_ℤ (pos 3000))
  pub else : (ready_seats bits ≡ 0) ⊎ (ready_seats bits ≡ 4) → x ≡ pos 0
