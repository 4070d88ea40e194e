-- How many tiles of a kind a hand can hold, sound or not; a tally with one tile more.
use Rattle.std.specs.Prelude.{◌≡◌, List, ℕ, ◌+◌, ◌≤◌, ◌<◌, ltb, length, get_or}
use Rattle.std.proofs.Common.{ap, ◌∙◌, arith}
use Rattle.std.proofs.Math.Bool.{cond}
use Rattle.std.proofs.Math.Dec.{eqb}
use Rattle.tiles.proofs.laws.Below.{number_le, cond_le}
use Rattle.tiles.specs.Groups.{at_kind}
use Rattle.tiles.specs.Tally.{tally_of, more}
use Rattle.tiles.proofs.laws.Tally.{at_le, get_d_tally, tally_bound, tally_ext, more_adds}
use Rattle.hand.specs.declared.Held.{Held}
use Rattle.hand.specs.declared.Hand.{Hand}
use Rattle.hand.specs.Held.{meld_tile, meld_kind, meld_holds, in_melds, in_others, in_held, others}
use Rattle.hand.specs.Hand.{in_concealed, in_hand}

pub meld_le : (b k : ℕ) → meld_holds b k ≤ 4
unfolding meld_holds
meld_le b k =
    cond_le (eqb (meld_kind b) 0) _ _ 4 (omega (arith, at_le (meld_tile b) 1 k, at_le (meld_tile b + 1) 1 k, at_le (meld_tile b + 2) 1 k))
    (cond_le (eqb (meld_kind b) 1) _ _ 4 (omega (arith, at_le (meld_tile b) 3 k)) (omega (arith, at_le (meld_tile b) 4 k)))

module _ (x : Held) (k : ℕ) where
  pub melds_le : in_melds x k ≤ 16
  unfolding in_melds
  melds_le = omega (arith, one 0, one 1, one 2, one 3)
    where
      one : (i : ℕ) → cond (ltb i x.m) (meld_holds (get_or x.melds i 0) k) 0 ≤ 4
      one i = cond_le (ltb i x.m) _ 0 4 (meld_le (get_or x.melds i 0) k) (omega arith)

  pub others_le : in_others x k ≤ 13
  unfolding in_others
  others_le = omega (arith, number_le (λ i. eqb (get_or x.concealed i 0) k) (others x))

  pub held_le : in_held x k ≤ 29
  unfolding in_held
  held_le = omega (arith, melds_le, others_le)

pub concealed_le : (h : Hand) (k : ℕ) → in_concealed h k ≤ 14
unfolding in_concealed
concealed_le h k = omega (arith, others_le h.held k, at_le h.fields.winning 1 k)

pub hand_le : (h : Hand) (k : ℕ) → in_hand h k ≤ 30
unfolding in_hand
hand_le h k = omega (arith, held_le h.held k, at_le h.fields.winning 1 k)

-- ---- a tally with one tile more

module _ (t : List ℕ) (f : ℕ → ℕ) (l : length t ≡ 34) (e : t ≡ tally_of f) where
  pub tally_at : (k : ℕ) → k < 34 → get_or t k 0 ≡ f k
  tally_at k g = ap (λ (x : List ℕ). get_or x k 0) e ∙ get_d_tally f k g

  pub tally_room : (b : ℕ) → ((k : ℕ) → f k ≤ b) → (k : ℕ) → get_or t k 0 ≤ b
  tally_room b h = tally_bound t l b (λ k g. rw (tally_at k g) (h k))

  pub tally_plus : (u : List ℕ) (a n : ℕ) → length u ≡ 34 → u ≡ more t a n → u ≡ tally_of (λ k. f k + at_kind a n k)
  tally_plus u a n m q = tally_ext u (λ k. f k + at_kind a n k) m (more_adds t l u f a n q tally_at)
