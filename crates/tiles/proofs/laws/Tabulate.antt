-- Lists element by element: that of f at each number, and one whose elements are mapped.
use Rattle.std.specs.Prelude.{◌≡◌, refl, List, [], ◌∷◌, map, ℕ, zero, suc, ◌+◌, ◌<◌, get_or, length}
use Rattle.std.proofs.Common.{sym, ap, ◌∙◌, add-zero, add-suc, suc-add, zero-add, le_of_suc-le-suc, not-suc-le-zero}
use Rattle.std.proofs.lemmas.List.{length-map}
use Rattle.std.proofs.Math.ListN.{get_or-map}
use Rattle.tiles.specs.Below.{tabulate}

module _ {ℓ} {A : Type ℓ} where
  pub length_tabulate : (n i : ℕ) (f : ℕ → A) → length (tabulate n i f) ≡ n
  length_tabulate zero i f = refl
  length_tabulate (suc n) i f = ap suc (length_tabulate n (suc i) f)

  get_d_from : (d : A) (n i : ℕ) (f : ℕ → A) (k : ℕ) → k < n → get_or (tabulate n i f) k d ≡ f (i + k)
  get_d_from d zero i f k h = absurd (not-suc-le-zero h)
  get_d_from d (suc n) i f zero h = ap f (sym (add-zero i))
  get_d_from d (suc n) i f (suc k) h = get_d_from d n (suc i) f k (le_of_suc-le-suc h) ∙ ap f (suc-add i k ∙ sym (add-suc i k))

  -- the element at k of the list from 0 on, whatever stands for one that is missing
  pub get_d_tabulate : (d : A) (n : ℕ) (f : ℕ → A) (k : ℕ) → k < n → get_or (tabulate n 0 f) k d ≡ f k
  get_d_tabulate d n f k h = get_d_from d n 0 f k h ∙ ap f (zero-add k)

-- within a list what stands for a missing element is not read
pub get_d_any : (l : List ℕ) (i a b : ℕ) → i < length l → get_or l i a ≡ get_or l i b
get_d_any [] i a b h = absurd (not-suc-le-zero h)
get_d_any (x ∷ l) zero a b h = refl
get_d_any (x ∷ l) (suc i) a b h = get_d_any l i a b (le_of_suc-le-suc h)

pub get_d_mapped : (f : ℕ → ℕ) (l : List ℕ) (i : ℕ) → i < length l → get_or (map f l) i 0 ≡ f (get_or l i 0)
get_d_mapped f l i h = get_d_any (map f l) i 0 (f 0) (rw (length-map l f) h) ∙ get_or-map f l i 0
