-- Seats moved on by n: the order of seats and all payments move with them.
use Rattle.std.specs.Prelude.{ℕ, zero, suc, ◌+◌, ◌*◌, ◌-◌, ◌%◌, ◌≤◌, ◌<◌, Bool, ◌||◌, cond, List, ℤ, pos, get_or, replicate}
use Rattle.std.proofs.Math.Path.{◌≡◌, refl}
use Rattle.std.proofs.Common.{ap, ◌∙◌, arith}
use Rattle.std.proofs.Math.Bool.{true, false}
use Rattle.std.proofs.Math.Dec.{eqb}
use Rattle.tiles.specs.Below.{sum, tabulate}
use Rattle.tiles.proofs.laws.Below.{same_test}
use Rattle.tiles.proofs.laws.Tabulate.{get_d_tabulate}
use Rattle.points.specs.declared.Seats.{Seats}
use Rattle.points.specs.Points.{times_a, pays, gain, change, changes}
use Rattle.score.specs.declared.Scored.{Scored}
use Rattle.score.specs.Named.{refused_with}
use Rattle.symmetry.specs.Rotated.{on, RotatedScore}

-- the seat from which it is n on: at a table of four, 3n on is n back
abbrev pub back : ℕ → ℕ → ℕ
back n seat = on (3 * n) seat

pub on_test : (n a b : ℕ) → a < 4 → b < 4 → eqb (on n a) (on n b) ≡ eqb a b
on_test n a b h g = same_test (on n a) (on n b) a b (λ e. omega arith) (λ e. ap (on n) e)

back_test : (n a b : ℕ) → a < 4 → b < 4 → eqb (on n a) b ≡ eqb a (back n b)
back_test n a b h g = same_test (on n a) b a (back n b) (λ e. omega arith) (λ e. omega arith)

-- "Seat wind is (seat − dealer) mod 4": it stays
pub wind_stays : (n w d : ℕ) → w ≤ 3 → d ≤ 3 → (on n w + 4 - on n d) % 4 ≡ (w + 4 - d) % 4
wind_stays n w d h g = omega arith

-- ---- four changes

-- each seat has the change of the seat n before it
unfoldable pub rotated_changes : ℕ → List ℤ → List ℤ
rotated_changes n l = tabulate 4 0 (λ seat. get_or l (back n seat) (pos 0))

-- a score with its changes so
unfoldable pub rotated_score : ℕ → Scored → Scored
rotated_score n x = record {
  refusal = x.refusal;
  h = x.h;
  fu = x.fu;
  items = x.items;
  yaku = x.yaku;
  tried = x.tried;
  changes = rotated_changes n x.changes;
}

-- what a seat had, the seat n on has
moved_at : (n seat : ℕ) (l : List ℤ) → seat < 4 → get_or (rotated_changes n l) (on n seat) (pos 0) ≡ get_or l seat (pos 0)
unfolding rotated_changes
moved_at n seat l h =
    let e : back n (on n seat) ≡ seat = omega arith in
    get_d_tabulate (pos 0) 4 (λ i. get_or l (back n i) (pos 0)) (on n seat) (omega arith) ∙ ap (λ (x : ℕ). get_or l x (pos 0)) e

pub rotated : (n : ℕ) (x : Scored) → RotatedScore n x (rotated_score n x)
unfolding rotated_score
rotated n x = record {
  refusal = refl;
  h = refl;
  fu = refl;
  items = refl;
  yaku = refl;
  tried = refl;
  changes = λ seat l. moved_at n seat x.changes l;
}

-- zeros moved on are zeros
zero_at : (i : ℕ) → get_or (replicate 4 (pos 0)) i (pos 0) ≡ pos 0
zero_at zero = refl
zero_at (suc zero) = refl
zero_at (suc (suc zero)) = refl
zero_at (suc (suc (suc zero))) = refl
zero_at (suc (suc (suc (suc i)))) = refl

pub refused_on : (n k : ℕ) → rotated_score n (refused_with k) ≡ refused_with k
unfolding rotated_score rotated_changes
refused_on n k = rw (zero_at (back n 0), zero_at (back n 1), zero_at (back n 2), zero_at (back n 3))

-- ---- payments

-- the four seats in another order
sum_back : (n : ℕ) (f : ℕ → ℕ) → sum 4 (λ i. f (back n i)) ≡ sum 4 f
sum_back n f = rw (less 0, less 1, less 2, less 3) (go (n % 4) (omega arith))
  where
    less : (i : ℕ) → back n i ≡ (i + (4 - n % 4)) % 4
    less i = omega arith

    go : (r : ℕ) → r < 4 → sum 4 (λ i. f ((i + (4 - r)) % 4)) ≡ sum 4 f
    go zero h = refl
    go (suc zero) h = omega arith
    go (suc (suc zero)) h = omega arith
    go (suc (suc (suc zero))) h = omega arith
    go (suc (suc (suc (suc r)))) h = absurd (omega arith)

-- the seats of a hand, moved on; on tsumo the discarder does not count
module _ (n w d c e : ℕ) (hw : w < 4) (hd : d < 4) (ron : Bool) (hc : ron ≡ true → (c < 4) × (e ≡ on n c)) where
  abbrev s : Seats
  s = record { winner = w; dealer = d; discarder = c }

  abbrev t : Seats
  t = record { winner = on n w; dealer = on n d; discarder = e }

  times_on : (i : ℕ) → i < 4 → times_a t ron i ≡ times_a s ron (back n i)
  unfolding times_a
  times_on i h = rw (back_test n w i hw h, on_test n w d hw hd, back_test n d i hd h) (go ron refl)
    where
      go : (b : Bool) → ron ≡ b
          → ◌≡◌ {A = ℕ} (cond (eqb w (back n i)) 0 (cond b (cond (eqb e i) (cond (eqb w d) 6 4) 0) (cond (eqb w d || eqb d (back n i)) 2 1)))
          (cond (eqb w (back n i)) 0 (cond b (cond (eqb c (back n i)) (cond (eqb w d) 6 4) 0) (cond (eqb w d || eqb d (back n i)) 2 1)))
      go true q = rw ((hc q).1, back_test n c i (hc q).0 h)
      go false q = refl

  module _ (a : ℕ) where
    pays_on : (i : ℕ) → i < 4 → pays t ron a i ≡ pays s ron a (back n i)
    unfolding pays
    pays_on i h = rw (times_on i h)

    pub gain_on : gain t ron a ≡ gain s ron a
    unfolding gain
    gain_on = rw (pays_on 0 (omega arith), pays_on 1 (omega arith), pays_on 2 (omega arith), pays_on 3 (omega arith)) (sum_back n (pays s ron a))

    -- the change of a seat is that of the seat n before it
    change_on : (i : ℕ) → i < 4 → change t ron a i ≡ get_or (changes s ron a) (back n i) (pos 0)
    unfolding change changes
    change_on i h = rw (get_d_tabulate (pos 0) 4 (change s ron a) (back n i) (omega arith), back_test n w i hw h, gain_on, pays_on i h)

    pub changes_on : changes t ron a ≡ rotated_changes n (changes s ron a)
    unfolding changes rotated_changes
    changes_on = rw (change_on 0 (omega arith), change_on 1 (omega arith), change_on 2 (omega arith), change_on 3 (omega arith))
