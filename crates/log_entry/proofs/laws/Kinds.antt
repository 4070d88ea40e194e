-- Which entry the bytes of one are, as the code finds it: by its first byte, and by the byte after it.
use Rattle.std.specs.Prelude.{◌≡◌, refl, cond, List, [], ◌∷◌, ℕ, ◌+◌, ◌-◌, ◌*◌, ◌/◌, ◌%◌, ◌≤◌, ◌<◌, eqb}
use Rattle.std.proofs.Common.{◌∙◌, arith}
use Rattle.position.specs.Booking.{Result, result, riichi, win, draw, chombo, pao, multi_ron}
use Rattle.game.specs.Game.{booking, correction}
use Rattle.game.specs.Game as Game
use Rattle.log_entry.specs.Entry.{IsResult, IsEntry}
use Rattle.log_entry.specs.Entry as Entry
use Rattle.log_entry.specs.search.Found.{result_by, booking_by, result_of, booking_of, entry_of}

-- a header of kind k and argument a
module _ (header k a : ℕ) (s : List ℕ) (ek : header / 16 ≡ k) (ea : header % 16 ≡ a) where
  by_header : entry_of (header ∷ s) ≡ cond (eqb k 6) (correction (result_of s)) (booking (booking_by k a s))
  unfolding entry_of booking_of
  by_header = rw (ek, ea)

  inner : entry_of (96 ∷ header ∷ s) ≡ correction (result_by k a s)
  unfolding entry_of result_of
  inner = rw (ek, ea)

riichi_is : (seat : ℕ) → seat < 16 → entry_of (seat ∷ []) ≡ booking (riichi seat)
riichi_is seat h = by_header seat 0 seat [] (omega (arith, h)) (omega (arith, h))

win_is : (s : List ℕ) → (entry_of (16 ∷ s) ≡ booking (result (win s))) × (entry_of (96 ∷ 16 ∷ s) ≡ correction (win s))
win_is s = (by_header 16 1 0 s refl refl, inner 16 1 0 s refl refl)

draw_is : (bits : ℕ) → bits < 16 → (entry_of ((32 + bits) ∷ []) ≡ booking (result (draw bits))) × (entry_of (96 ∷ (32 + bits) ∷ []) ≡ correction (draw bits))
draw_is bits h = (by_header (32 + bits) 2 bits [] (omega (arith, h)) (omega (arith, h)), inner (32 + bits) 2 bits [] (omega (arith, h)) (omega (arith, h)))

chombo_is : (seat : ℕ) → seat < 16 → (entry_of ((48 + seat) ∷ []) ≡ booking (result (chombo seat)))
    × (entry_of (96 ∷ (48 + seat) ∷ []) ≡ correction (chombo seat))
chombo_is seat h = (by_header (48 + seat) 3 seat [] (omega (arith, h)) (omega (arith, h)), inner (48 + seat) 3 seat [] (omega (arith, h)) (omega (arith, h)))

multi_ron_is : (n : ℕ) (s : List ℕ) → n < 16
    → (entry_of ((64 + n) ∷ s) ≡ booking (result (multi_ron n s))) × (entry_of (96 ∷ (64 + n) ∷ s) ≡ correction (multi_ron n s))
multi_ron_is n s h = (by_header (64 + n) 4 n s (omega (arith, h)) (omega (arith, h)), inner (64 + n) 4 n s (omega (arith, h)) (omega (arith, h)))

-- the byte of a pao, by its fields
pao_is : (holder feeder yaku : ℕ) → feeder ≤ 3 → 28 ≤ yaku → yaku ≤ 29
    → entry_of (80 ∷ (64 * holder + 16 * feeder + 8 * (yaku - 28)) ∷ []) ≡ booking (pao holder feeder yaku)
pao_is holder feeder yaku f low high = by_header 80 5 0 (byte ∷ []) refl refl ∙ fields
  where
    byte : ℕ
    byte = 64 * holder + 16 * feeder + 8 * (yaku - 28)

    fields : booking (pao (byte / 64) (byte / 16 % 4) (28 + byte / 8 % 2)) ≡ booking (pao holder feeder yaku)
    fields =
        let a : byte / 64 ≡ holder = omega (arith, f, low, high) in
        let b : byte / 16 % 4 ≡ feeder = omega (arith, f, low, high) in
        let c : 28 + byte / 8 % 2 ≡ yaku = omega (arith, f, low, high) in
        rw (a, b, c)

-- ---- every kind

pub result_is : {s : List ℕ} {r : Result} → IsResult s r → (entry_of s ≡ booking (result r)) × (entry_of (96 ∷ s) ≡ correction r)
result_is (Entry.win s w) = win_is s
result_is (Entry.draw bits h) = draw_is bits h
result_is (Entry.chombo seat h) = chombo_is seat h
result_is (Entry.multi_ron n s p h w) = multi_ron_is n s (omega (arith, h))

pub entry_is : {s : List ℕ} {e : Game.Entry} → IsEntry s e → entry_of s ≡ e
entry_is (Entry.riichi seat h) = riichi_is seat h
entry_is (Entry.pao holder feeder yaku f low high) = pao_is holder feeder yaku f low high
entry_is (Entry.result s r i) = (result_is i).0
entry_is (Entry.correction s r i) = (result_is i).1
