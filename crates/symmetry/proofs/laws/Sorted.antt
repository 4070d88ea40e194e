-- Tiles and groups put back in order: each sum over them stays.
use Rattle.std.specs.Prelude.{ℕ, zero, suc, ◌+◌, ◌≤◌, ◌<◌, ◌≡◌, Bool, cond, length, get_or}
use Rattle.std.proofs.Math.Path.{refl}
use Rattle.std.proofs.Common.{ap, ◌∙◌, arith}
use Rattle.std.proofs.Math.Bool.{true, false}
use mathlib.Core.List.{List, [], ◌∷◌}
use borrow.Author.Tests.{leb-true, leb-false}
use Rattle.std.proofs.Math.Dec.{leb}
use Rattle.tiles.proofs.laws.Sums.{sum_over}

-- x put before the first that is not lower
unfoldable pub put : ℕ → List ℕ → List ℕ
put x [] = x ∷ []
put x (y ∷ l) = cond (leb x y) (x ∷ y ∷ l) (y ∷ put x l)

-- in order: each put among those after it
unfoldable pub in_order : List ℕ → List ℕ
in_order [] = []
in_order (x ∷ l) = put x (in_order l)

over_put : (φ : ℕ → ℕ) (x : ℕ) (l : List ℕ) → sum_over φ (put x l) ≡ φ x + sum_over φ l
unfolding sum_over put
over_put φ x [] = refl
over_put φ x (y ∷ l) = go (leb x y) (over_put φ x l)
  where
    go : (b : Bool) → sum_over φ (put x l) ≡ φ x + sum_over φ l → sum_over φ (cond b (x ∷ y ∷ l) (y ∷ put x l)) ≡ φ x + (φ y + sum_over φ l)
    go true e = refl
    go false e = omega arith

pub over_in_order : (φ : ℕ → ℕ) (l : List ℕ) → sum_over φ (in_order l) ≡ sum_over φ l
unfolding sum_over in_order
over_in_order φ [] = refl
over_in_order φ (x ∷ l) = over_put φ x (in_order l) ∙ ap (λ (n : ℕ). φ x + n) (over_in_order φ l)

-- each has P
abbrev pub All : (ℕ → Type 0) → List ℕ → Type 0
All P [] = Unit {0}
All P (x ∷ l) = P x × All P l

-- from lo on in order, and each has P
abbrev pub Ordered : (ℕ → Type 0) → ℕ → List ℕ → Type 0
Ordered P lo [] = Unit {0}
Ordered P lo (x ∷ l) = (lo ≤ x) × P x × Ordered P x l

module _ (P : ℕ → Type 0) where
  ordered_put : (lo x : ℕ) (l : List ℕ) → lo ≤ x → P x → Ordered P lo l → Ordered P lo (put x l)
  unfolding put
  ordered_put lo x [] h g s = (h, g, tt)
  ordered_put lo x (y ∷ l) h g s = go (λ k. ordered_put y x l k g s.2) (leb x y) refl
    where
      go : (y ≤ x → Ordered P y (put x l)) → (b : Bool) → leb x y ≡ b → Ordered P lo (cond b (x ∷ y ∷ l) (y ∷ put x l))
      go r true e = (h, g, (leb-true x y e, s.1, s.2))
      go r false e = (s.0, s.1, r (omega (arith, leb-false x y e)))

  pub ordered : (l : List ℕ) → All P l → Ordered P 0 (in_order l)
  unfolding in_order
  ordered [] s = tt
  ordered (x ∷ l) s = ordered_put 0 x (in_order l) (omega arith) s.0 (ordered l s.1)

  pub ordered_at : (lo : ℕ) (l : List ℕ) (i : ℕ) → Ordered P lo l → i < length l → P (get_or l i 0)
  ordered_at lo [] i s h = absurd (omega arith)
  ordered_at lo (x ∷ l) zero s h = s.1
  ordered_at lo (x ∷ l) (suc i) s h = ordered_at x l i s.2 (omega arith)

  pub ordered_next : (lo : ℕ) (l : List ℕ) (i : ℕ) → Ordered P lo l → suc i < length l → get_or l i 0 ≤ get_or l (suc i) 0
  ordered_next lo [] i s h = absurd (omega arith)
  ordered_next lo (x ∷ []) i s h = absurd (omega arith)
  ordered_next lo (x ∷ y ∷ l) zero s h = s.2.0
  ordered_next lo (x ∷ y ∷ l) (suc i) s h = ordered_next x (y ∷ l) i s.2 (omega arith)
