-- Sums over the numbers below n and over lists: term by term, in two parts, in another order.
use Rattle.std.specs.Prelude.{ℕ, zero, suc, ◌+◌, ◌<◌, ◌≡◌, Bool, List, [], ◌∷◌, map, length, get_or}
use Rattle.std.proofs.Math.Path.{refl, sym, ap}
use Rattle.std.proofs.Common.{◌∙◌, add-zero, add-suc, arith, eqb-true, eq-eqb, ne_eqb}
use Rattle.std.proofs.Math.Bool.{true, false, cond}
use Rattle.std.proofs.lemmas.Bool.{eqb-false}
use Rattle.std.proofs.Math.Dec.{eqb}
use Rattle.tiles.specs.Below.{sum, sum_below}
use Rattle.tiles.specs.Groups.{at_kind}
use Rattle.tiles.proofs.laws.Tally.{of_kind}
use Rattle.tiles.proofs.laws.Below.{same_test}

-- ---- over the numbers below n

pub sum_cong : (f g : ℕ → ℕ) (n : ℕ) → ((i : ℕ) → i < n → f i ≡ g i) → sum n f ≡ sum n g
sum_cong f g zero h = refl
sum_cong f g (suc n) h = omega (arith, sum_cong f g n (λ i l. h i (omega arith)), h n (omega arith))

pub sum_add : (f g : ℕ → ℕ) (n : ℕ) → sum n (λ i. f i + g i) ≡ sum n f + sum n g
sum_add f g zero = refl
sum_add f g (suc n) = omega (arith, sum_add f g n)

-- the first n and the m after them
pub sum_parts : (f : ℕ → ℕ) (n m : ℕ) → sum (n + m) f ≡ sum n f + sum m (λ i. f (n + i))
sum_parts f n zero = rw (add-zero n) (omega arith)
sum_parts f n (suc m) = rw (add-suc n m) (omega (arith, sum_parts f n m))

-- where f and g differ only at j
pub sum_differ : (f g : ℕ → ℕ) (n j : ℕ) → j < n → ((i : ℕ) → i < n → (i ≡ j → ⊥) → f i ≡ g i) → sum n f + g j ≡ sum n g + f j
sum_differ f g zero j h e = absurd (omega arith)
sum_differ f g (suc n) j h e = go (λ l. sum_differ f g n j l (λ i m. e i (omega arith))) (eqb j n) refl
  where
    go : (j < n → sum n f + g j ≡ sum n g + f j) → (b : Bool) → eqb j n ≡ b → sum n f + f n + g j ≡ sum n g + g n + f j
    go r true q =
        let z = eqb-true j n q in
        let s = sum_cong f g n (λ i l. e i (omega arith) (λ w. omega arith)) in
        rw z (omega arith)
    go r false q =
        let z = eqb-false j n q in
        omega (arith, r (omega arith), e n (omega arith) (λ w. z (sym w)))

sum_none : (n : ℕ) → sum n (λ i. 0) ≡ 0
sum_none zero = refl
sum_none (suc n) = omega (arith, sum_none n)

-- x at one of them
pub sum_at : (a x n : ℕ) → a < n → sum n (at_kind a x) ≡ x
unfolding at_kind
sum_at a x n h =
    let e = sum_differ (at_kind a x) (λ i. 0) n a h (λ i l d. other i d) in
    let z = sum_none n in
    let o : at_kind a x a ≡ x = rw (eq-eqb a a refl) in
    omega arith
  where
    other : (i : ℕ) → (i ≡ a → ⊥) → cond (eqb a i) x 0 ≡ 0
    other i d = rw (ne_eqb a i (λ q. d (sym q)))

pub sum_swap : (f : ℕ → ℕ → ℕ) (m n : ℕ) → sum m (λ i. sum n (λ j. f i j)) ≡ sum n (λ j. sum m (λ i. f i j))
sum_swap f zero n = sym (sum_none n)
sum_swap f (suc m) n = omega (arith, sum_swap f m n, sum_add (λ j. sum m (λ i. f i j)) (f m) n)

-- the numbers below n in another order
module _ (n : ℕ) (to from : ℕ → ℕ) (to_lt : (k : ℕ) → k < n → to k < n) (from_lt : (k : ℕ) → k < n → from k < n)
    (there : (k : ℕ) → from (to k) ≡ k) (again : (k : ℕ) → to (from k) ≡ k) (h g : ℕ → ℕ) (e : (k : ℕ) → k < n → g (to k) ≡ h k) where
  -- g k where j goes to k
  abbrev one : ℕ → ℕ → ℕ
  one k j = at_kind (to j) (g k) k

  rows : (k : ℕ) → k < n → sum n (one k) ≡ g k
  unfolding at_kind
  rows k l =
      sum_cong (one k) (at_kind (from k) (g k)) n (λ j m. rw (same_test (to j) k (from k) j (λ q. ap from (sym q) ∙ there j) (λ q. ap to (sym q) ∙ again k)))
      ∙ sum_at (from k) (g k) n (from_lt k l)

  columns : (j : ℕ) → j < n → sum n (λ k. one k j) ≡ h j
  unfolding at_kind
  columns j l = sum_cong (λ k. one k j) (at_kind (to j) (h j)) n (λ k m. go k (eqb (to j) k) refl) ∙ sum_at (to j) (h j) n (to_lt j l)
    where
      go : (k : ℕ) (b : Bool) → eqb (to j) k ≡ b → cond b (g k) 0 ≡ cond b (h j) 0
      go k true q = ap g (sym (eqb-true (to j) k q)) ∙ e j l
      go k false q = refl

  pub total_moved : sum_below n g ≡ sum_below n h
  unfolding sum_below
  total_moved =
      sym (sum_cong (λ k. sum n (one k)) g n rows) ∙ sum_swap one n n ∙ sum_cong (λ j. sum n (λ k. one k j)) h n columns

-- ---- over a list

-- the sum of φ over a list
unfoldable pub sum_over : (ℕ → ℕ) → List ℕ → ℕ
sum_over φ [] = 0
sum_over φ (x ∷ l) = φ x + sum_over φ l

pub over_map : (φ f : ℕ → ℕ) (l : List ℕ) → sum_over φ (map f l) ≡ sum_over (λ x. φ (f x)) l
unfolding sum_over
over_map φ f [] = refl
over_map φ f (x ∷ l) = rw (over_map φ f l)

pub over_cong : (φ ψ : ℕ → ℕ) (l : List ℕ) → ((x : ℕ) → φ x ≡ ψ x) → sum_over φ l ≡ sum_over ψ l
unfolding sum_over
over_cong φ ψ [] h = refl
over_cong φ ψ (x ∷ l) h = rw (h x, over_cong φ ψ l h)

-- by places
pub over_places : (φ : ℕ → ℕ) (l : List ℕ) → sum (length l) (λ i. φ (get_or l i 0)) ≡ sum_over φ l
unfolding sum_over
over_places φ [] = refl
over_places φ (x ∷ l) = omega (arith, front (λ i. φ (get_or (x ∷ l) i 0)) (length l), over_places φ l)
  where
    front : (f : ℕ → ℕ) (n : ℕ) → sum (suc n) f ≡ f 0 + sum n (λ i. f (suc i))
    front f zero = omega arith
    front f (suc n) = omega (arith, front f n)

pub over_length : (l : List ℕ) → sum_over (λ x. 1) l ≡ length l
unfolding sum_over
over_length [] = refl
over_length (x ∷ l) = omega (arith, over_length l)

-- how many of a kind
pub over_kind : (l : List ℕ) (k : ℕ) → sum_over (λ x. at_kind x 1 k) l ≡ of_kind l k
unfolding sum_over of_kind
over_kind [] k = refl
over_kind (x ∷ l) k = rw (over_kind l k)
