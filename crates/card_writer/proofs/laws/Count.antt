-- How many cards are drawn, turn by turn, and that they are few enough to count in 16 bits: one argument for every size up to 8.
use Rattle.std.specs.Prelude.{◌≡◌, refl, Bool, true, false, ltb, leb, get_or}
use Rattle.std.proofs.Math.Path.{ap}
use Rattle.std.proofs.Common.{◌∙◌, length-append}
use mathlib.Core.List.{List, [], ◌∷◌, ◌++◌, map}
use Prim.Native.Nat.{ℕ, zero, suc, ◌+◌, ◌-◌, ◌≤◌, ◌<◌}
use native.Mathlib.Omega.{arith}
use borrow.Author.Tests.{lt-ltb, le-ltb, leb-true}
use Rattle.std.proofs.Math.ListN.{length}
use Rattle.std.proofs.lemmas.List.{length-map}
use Rattle.tiles.specs.Below.{all_below}
use Rattle.tiles.proofs.laws.Below.{every_at}
use Rattle.tiles.specs.Tally.{more}
use Rattle.reading.specs.search.Readings.{when}
use Rattle.reading_splits.specs.search.SplitsInto.{splits_into}
use Rattle.cards.specs.search.Draws.{draw, draws}
use Rattle.card_writer.specs.search.Written.{counted}

-- ---- all tiles are drawn
module _ (n left end a : ℕ) (t : List ℕ) (z : left ≡ 0) where
  pub counted_one : splits_into (suc n) true t ≡ true → counted n left end a t ≡ 1
  unfolding counted draws
  counted_one e = rw (z, e)

  pub counted_none : splits_into (suc n) true t ≡ false → counted n left end a t ≡ 0
  unfolding counted draws
  counted_none e = rw (z, e)

-- ---- a turn
module _ (n end a : ℕ) (t : List ℕ) where
  pub counted_end : (left : ℕ) → (left ≡ 0 → ⊥) → end ≤ a → counted n left end a t ≡ 0
  unfolding counted draws draw
  counted_end zero h l = absurd (h refl)
  counted_end (suc m) h l = let s : end - a ≡ 0 = omega arith in rw s

  counted_skip : (left : ℕ) → (left ≡ 0 → ⊥) → a < end → 4 ≤ get_or t a 0 → counted n left end a t ≡ counted n left end (a + 1) t
  unfolding counted draws draw
  counted_skip zero h l f = absurd (h refl)
  counted_skip (suc m) h l f =
      let s : end - a ≡ suc (end - (a + 1)) = omega arith in
      rw (s, le-ltb (get_or t a 0) 4 f)

  counted_with : (left : ℕ) → (left ≡ 0 → ⊥) → a < end → get_or t a 0 < 4
      → counted n left end a t ≡ counted n (left - 1) end a (more t a 1) + counted n left end (a + 1) t
  unfolding counted draws draw
  counted_with zero h l f = absurd (h refl)
  counted_with (suc m) h l f =
      let s : end - a ≡ suc (end - (a + 1)) = omega arith in
      let z : suc m - 1 ≡ m = omega arith in
      let x = draws n m (suc (end - (a + 1))) a (more t a 1) in
      let y = draw (draws n m) (end - (a + 1)) (a + 1) t in
      rw (s, z, lt-ltb (get_or t a 0) 4 f) (length-append (map (λ (l : List ℕ). a ∷ l) x) y
      ∙ ap (λ (k : ℕ). k + length y) (length-map x (λ (l : List ℕ). a ∷ l)))

-- ---- they are no more than the lists of so many kinds that do not descend
row : (ℕ → ℕ) → ℕ → ℕ
row f zero = 0
row f (suc j) = f (suc j) + row f j

chosen : ℕ → ℕ → ℕ
chosen zero j = 1
chosen (suc m) j = row (chosen m) j

draw_few : (rest : ℕ → ℕ → List ℕ → List (List ℕ)) (f : ℕ → ℕ) → ((j a : ℕ) (t : List ℕ) → length (rest j a t) ≤ f j)
    → (j a : ℕ) (t : List ℕ) → length (draw rest j a t) ≤ row f j
unfolding draw row
draw_few rest f h zero a t = omega arith
draw_few rest f h (suc j) a t = go (draw_few rest f h j (a + 1) t) (ltb (get_or t a 0) 4)
  where
    x : List (List ℕ)
    x = rest (suc j) a (more t a 1)

    y : List (List ℕ)
    y = draw rest j (a + 1) t

    go : length y ≤ row f j → (b : Bool) → length (when b (λ _. map (λ (l : List ℕ). a ∷ l) x) ++ y) ≤ f (suc j) + row f j
    go l true = omega (arith, length-append (map (λ (l : List ℕ). a ∷ l) x) y, length-map x (λ (l : List ℕ). a ∷ l), h (suc j) a (more t a 1))
    go l false = omega arith

draws_few : (n m j a : ℕ) (t : List ℕ) → length (draws n m j a t) ≤ chosen m j
unfolding draws chosen
draws_few n zero j a t = go (splits_into (suc n) true t)
  where
    go : (b : Bool) → length {A = List ℕ} (when b (λ _. [] ∷ [])) ≤ 1
    go true = omega arith
    go false = omega arith
draws_few n (suc m) j a t = draw_few (draws n m) (chosen m) (draws_few n m) j a t

-- for every size up to 8, and the nine kinds of a suit
chosen_few : all_below 9 (λ m. all_below 10 (λ j. leb (chosen m j) 12870)) ≡ true
unfolding all_below chosen row
chosen_few = refl

pub counted_few : (n left end a : ℕ) (t : List ℕ) → left ≤ 8 → end ≤ a + 9 → counted n left end a t ≤ 12870
unfolding counted
counted_few n left end a t m j =
    let row = every_at (λ m. all_below 10 (λ j. leb (chosen m j) 12870)) 9 left chosen_few (omega arith) in
    let c = leb-true (chosen left (end - a)) 12870 (every_at (λ j. leb (chosen left j) 12870) 10 (end - a) row (omega arith)) in
    omega (arith, draws_few n left (end - a) a t)

-- ---- what is counted, c, and what is left to count give the whole, w
module _ (n left end a : ℕ) (t : List ℕ) (h : left ≡ 0 → ⊥) (l : a < end) (c w : ℕ) (i : c + counted n left end a t ≡ w) where
  -- of a kind of which there may be one more, with r of that tile
  pub left_with : (u : List ℕ) (r : ℕ) → get_or t a 0 < 4 → u ≡ more t a 1 → r ≡ counted n (left - 1) end a u → c + r + counted n left end (a + 1) t ≡ w
  left_with u r f e q =
      let v : r ≡ counted n (left - 1) end a (more t a 1) = rw (← e) q in
      omega (arith, counted_with n end a t left h l f)

  pub left_skip : (b : ℕ) → 4 ≤ get_or t a 0 → b ≡ c → b + counted n left end (a + 1) t ≡ w
  left_skip b f e = omega (arith, counted_skip n end a t left h l f)
