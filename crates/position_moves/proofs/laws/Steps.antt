-- What finishing a hand comes to, and that this is what the ledger's effects of riichi, of a named feeder, of a chombo and of a draw do.
use Rattle.std.specs.Prelude.{◌≡◌, Bool, not, ◌&&◌, ◌||◌, cond, List, [], ◌∷◌, ℕ, ◌+◌, ◌-◌, ◌≤◌, ℤ, pos, ◌+ℤ◌, get_or, set}
use Rattle.std.proofs.Common.{◌∙◌, arith}
use Rattle.std.proofs.Math.Bool.{true, false}
use borrow.Author.Tests.{ne_eqb}
use Rattle.std.proofs.Math.Dec.{eqb}
use Rattle.tiles.specs.Below.{any, count, tabulate}
use Rattle.tiles.proofs.laws.Tabulate.{get_d_tabulate}
use Rattle.position.specs.declared.Position.{Position}
use Rattle.position.specs.Booking.{result, riichi, draw, pao}
use Rattle.position.specs.Ledger.{last_hand, mark, is_declared, feeder_index, is_ready, share_of, riichi_gives, draw_gives, fine_of, chombo_gives, chombo_of}
use Rattle.position.specs.Ledger.{is_at_fault, effect_of, applied}
use Rattle.position.proofs.laws.Form.{Open}
use Rattle.position.proofs.laws.Sums.{paid}
unfoldable pub use Rattle.position_moves.specs.search.Finished.{finished}

-- ---- riichi, pao, chombo, draw

module _ (g : Position) (seat : ℕ) where
  pub riichi_applied : Open g → (s : List ℤ) (d : List ℕ) → s ≡ paid g.scores (tabulate 4 0 (riichi_gives seat))
      → d ≡ tabulate 4 0 (λ i. mark (eqb i seat || is_declared g i))
      → record {
        scores = s;
        sticks = g.sticks
            + 1;
        declared = d;
        dealer = g.dealer;
        wind = g.wind;
        hands = g.hands;
        over = 0;
        counter = g.counter;
        feeders = g.feeders;
      }
      ≡ applied g (effect_of g (riichi seat))
  unfolding applied effect_of
  riichi_applied o s d p q =
      let n : eqb g.hands last_hand ≡ false = ne_eqb g.hands last_hand (λ e. omega (arith, o.hands)) in
      rw (p, q, n)

module _ (g : Position) (holder feeder yaku : ℕ) where
  pub pao_applied : Open g → (s : List ℤ) (d f : List ℕ) → s ≡ paid g.scores (pos 0 ∷ pos 0 ∷ pos 0 ∷ pos 0 ∷ [])
      → d ≡ tabulate 4 0 (λ i. mark (is_declared g i))
      → f ≡ set g.feeders (feeder_index holder yaku) (1 + feeder)
      → record {
        scores = s;
        sticks = g.sticks;
        declared = d;
        dealer = g.dealer;
        wind = g.wind;
        hands = g.hands;
        over = 0;
        counter = g.counter;
        feeders = f;
      } ≡ applied g (effect_of g (pao holder feeder yaku))
  unfolding applied effect_of
  pao_applied o s d f p q r =
      let n : eqb g.hands last_hand ≡ false = ne_eqb g.hands last_hand (λ e. omega (arith, o.hands)) in
      rw (p, q, r, n)

module _ (g : Position) where
  -- f who is at fault, d who has declared
  pub chombo_applied : (f d : List Bool) (by : List ℤ) (n : ℕ) → d ≡ tabulate 4 0 (is_declared g)
      → by ≡ tabulate 4 0 (λ i. fine_of (λ j. get_or f j false) i +ℤ cond (get_or d i false) (pos 1000) (pos 0)) → n ≡ count 4 (λ i. get_or d i false)
      → finished g by (g.sticks - n) false g.counter ≡ applied g (chombo_of g (λ i. get_or f i false))
  unfolding finished applied chombo_gives
  chombo_applied f d by n e p q = rw (p, q, e)

  -- the seats by a list or by a test
  pub same_chombo : (f : List Bool) (at : ℕ → Bool) → f ≡ tabulate 4 0 at → applied g (chombo_of g (λ i. get_or f i false)) ≡ applied g (chombo_of g at)
  unfolding applied chombo_gives fine_of
  same_chombo f at q = rw q

-- r who is ready, f who has declared and is not
module _ (g : Position) (bits : ℕ) (r f : List Bool) (q : r ≡ tabulate 4 0 (is_ready bits))
    (e : f ≡ tabulate 4 0 (λ i. is_declared g i && not (get_or r i false))) where
  faults : f ≡ tabulate 4 0 (is_at_fault g bits)
  faults = e ∙ rw q

  some_fault : (t : Bool) → any 4 (λ i. get_or f i false) ≡ t → any 4 (is_at_fault g bits) ≡ t
  some_fault t a = rw faults at a

  pub fault_applied : any 4 (λ i. get_or f i false) ≡ true → applied g (chombo_of g (λ i. get_or f i false)) ≡ applied g (effect_of g (result (draw bits)))
  unfolding effect_of
  fault_applied a = let t = some_fault true a in rw t (same_chombo g f (is_at_fault g bits) faults)

  pub draw_applied : any 4 (λ i. get_or f i false) ≡ false → g.dealer ≤ 3 → (by : List ℤ)
      → by ≡ tabulate 4 0 (λ i. share_of (count 4 (λ j. get_or r j false)) (get_or r i false))
      → finished g by g.sticks (not (get_or r g.dealer false)) (g.counter + 1) ≡ applied g (effect_of g (result (draw bits)))
  unfolding finished applied effect_of draw_gives
  draw_applied a h by p = let t = some_fault false a in rw (p, q, get_d_tabulate false 4 (is_ready bits) g.dealer (omega (arith, h)), t)
