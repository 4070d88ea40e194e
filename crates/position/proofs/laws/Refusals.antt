-- The refusal of each booking, test by test, as the code comes to it; and what is booked then.
use Rattle.std.specs.Prelude.{◌≡◌, Bool, ◌||◌, cond, ◌⊎◌, List, ℕ, ◌≤◌, ◌<◌, eqb}
use Rattle.std.proofs.Math.Path.{refl}
use Rattle.std.proofs.Math.Bool.{true, false}
use Rattle.std.proofs.Common.{inl, arith}
use Rattle.std.proofs.Math.Logic.{inr}
use borrow.Author.Tests.{lt-ltb, le-ltb}
use Rattle.std.proofs.Math.Dec.{ltb}
use Rattle.hand_rons.specs.Records.{records_of, first_unreadable, not_on_one_tile}
use Rattle.position.specs.declared.Position.{Position}
use Rattle.position.specs.Booking.{Booking, result, riichi, win, draw, chombo, pao, multi_ron}
use Rattle.position.specs.Ledger.{is_declared, is_over, out_of_form, not_open, lacks_stick, wrong_pao, first_of, refusals_of, refusal_for}
use Rattle.position.specs.search.First.{win_refusal, first_refused}
use Rattle.position.specs.Ledger.{effect_of, applied, after, Moves}

-- ---- any booking, by its refusal

module _ (g : Position) (b : Booking) where
  pub refused_moves : (n : ℕ) → refusal_for g b ≡ n → 0 < n → Moves g b n g
  unfolding after
  refused_moves n q l =
      let t : ltb 0 (refusal_for g b) ≡ true = lt-ltb 0 (refusal_for g b) (omega arith) in
      rw q (refl, rw (rw q at t))

  pub accepted_moves : (h : Position) → refusal_for g b ≡ 0 → h ≡ applied g (effect_of g b) → Moves g b 0 h
  unfolding after
  accepted_moves h q e = rw q (refl, e)

-- ---- each booking's refusal

module _ (g : Position) (seat : ℕ) where
  pub riichi_seat : 3 < seat → refusal_for g (riichi seat) ≡ 8
  unfolding refusal_for refusals_of
  riichi_seat h = rw (lt-ltb 3 seat h)

  pub riichi_shut : seat ≤ 3 → not_open g ≡ true → refusal_for g (riichi seat) ≡ 9
  unfolding refusal_for refusals_of
  riichi_shut h o = rw (le-ltb 3 seat h, o)

  pub riichi_twice : seat ≤ 3 → not_open g ≡ false → is_declared g seat ≡ true → refusal_for g (riichi seat) ≡ 10
  unfolding refusal_for refusals_of
  riichi_twice h o d = rw (le-ltb 3 seat h, o, d)

  pub riichi_by : seat ≤ 3 → not_open g ≡ false → is_declared g seat ≡ false → (b : Bool) → lacks_stick g seat ≡ b → refusal_for g (riichi seat) ≡ cond b 21 0
  unfolding refusal_for refusals_of
  riichi_by h o d b e = rw (le-ltb 3 seat h, o, d, e)

  pub chombo_seat : 3 < seat → refusal_for g (result (chombo seat)) ≡ 8
  unfolding refusal_for refusals_of
  chombo_seat h = rw (lt-ltb 3 seat h)

  pub chombo_by : seat ≤ 3 → (b : Bool) → not_open g ≡ b → refusal_for g (result (chombo seat)) ≡ cond b 9 0
  unfolding refusal_for refusals_of
  chombo_by h b e = rw (le-ltb 3 seat h, e)

module _ (g : Position) (bits : ℕ) where
  pub draw_bits : 15 < bits → refusal_for g (result (draw bits)) ≡ 8
  unfolding refusal_for refusals_of
  draw_bits h = rw (lt-ltb 15 bits h)

  pub draw_by : bits ≤ 15 → (b : Bool) → not_open g ≡ b → refusal_for g (result (draw bits)) ≡ cond b 9 0
  unfolding refusal_for refusals_of
  draw_by h b e = rw (le-ltb 15 bits h, e)

module _ (g : Position) (holder feeder yaku : ℕ) where
  pub pao_seat : ltb 3 holder || ltb 3 feeder ≡ true → refusal_for g (pao holder feeder yaku) ≡ 8
  unfolding refusal_for refusals_of
  pao_seat h = rw h

  pub pao_shut : ltb 3 holder || ltb 3 feeder ≡ false → not_open g ≡ true → refusal_for g (pao holder feeder yaku) ≡ 9
  unfolding refusal_for refusals_of
  pao_shut h o = rw (h, o)

  pub pao_by : ltb 3 holder || ltb 3 feeder ≡ false → not_open g ≡ false → (b : Bool) → wrong_pao g holder feeder yaku ≡ b
      → refusal_for g (pao holder feeder yaku) ≡ cond b 18 0
  unfolding refusal_for refusals_of
  pao_by h o b e = rw (h, o, e)

module _ (g : Position) (s : List ℕ) where
  pub win_shut : not_open g ≡ true → refusal_for g (result (win s)) ≡ 9
  unfolding refusal_for refusals_of
  win_shut o = rw o

  -- in an open game: what Score refuses with, else 11 or 0
  pub win_by : not_open g ≡ false → refusal_for g (result (win s)) ≡ win_refusal g s
  unfolding refusal_for refusals_of
  win_by o = rw o

-- ---- multiple ron

module _ (g : Position) (number : ℕ) (s : List ℕ) where
  abbrev rs : List (List ℕ)
  rs = records_of number s

  pub multi_ron_shut : not_open g ≡ true → refusal_for g (result (multi_ron number s)) ≡ 9
  unfolding refusal_for refusals_of
  multi_ron_shut o = rw o

  module _ (o : not_open g ≡ false) where
    pub multi_ron_number : eqb number 0 || ltb 3 number ≡ true → refusal_for g (result (multi_ron number s)) ≡ 17
    unfolding refusal_for refusals_of
    multi_ron_number h = rw (o, h)

    module _ (h : eqb number 0 || ltb 3 number ≡ false) where
      pub multi_ron_unreadable : (n : ℕ) → n ≡ first_unreadable rs → 0 < n → refusal_for g (result (multi_ron number s)) ≡ n
      unfolding refusal_for refusals_of
      multi_ron_unreadable n e l = rw (o, h, ← e, lt-ltb 0 n l)

      pub multi_ron_by : first_unreadable rs ≡ 0 → (b : Bool) → not_on_one_tile rs ≡ b → refusal_for g (result (multi_ron number s)) ≡ cond b 17 (first_refused g rs)
      unfolding refusal_for refusals_of
      multi_ron_by e b q = rw (o, h, e, q)

-- ---- in a game out of form

module _ (g : Position) (o : out_of_form g ≡ true) where
  pub out_not_open : not_open g ≡ true
  unfolding not_open
  out_not_open = go (is_over g)
    where
      go : (t : Bool) → t || out_of_form g ≡ true
      go true = refl
      go false = o

  eight_or_nine : (b : Bool) (n : ℕ) → (cond b 8 (cond (not_open g) 9 n) ≡ 8) ⊎ (cond b 8 (cond (not_open g) 9 n) ≡ 9)
  eight_or_nine true n = inl refl
  eight_or_nine false n = inr (rw out_not_open)

  -- every booking is refused, with 9 or with the 8 before it
  pub out_refused : (b : Booking) → (refusal_for g b ≡ 8) ⊎ (refusal_for g b ≡ 9)
  unfolding refusal_for refusals_of
  out_refused (riichi seat) = eight_or_nine (ltb 3 seat) _
  out_refused (result (win s)) = inr (rw out_not_open)
  out_refused (result (draw bits)) = eight_or_nine (ltb 15 bits) _
  out_refused (result (chombo seat)) = eight_or_nine (ltb 3 seat) _
  out_refused (pao holder feeder yaku) = eight_or_nine (ltb 3 holder || ltb 3 feeder) _
  out_refused (result (multi_ron number s)) = inr (rw out_not_open)

-- where the game isn't open, a booking meets 9 or the 8 before it, whatever the position
pub shut_alike : (p q : Position) (b : Booking) → first_of (refusals_of true p b) ≡ first_of (refusals_of true q b)
unfolding refusals_of
shut_alike p q (riichi seat) = refl
shut_alike p q (pao holder feeder yaku) = refl
shut_alike p q (result (win s)) = refl
shut_alike p q (result (draw bits)) = refl
shut_alike p q (result (chombo seat)) = refl
shut_alike p q (result (multi_ron number s)) = refl
