-- Each element of a list, each pair of elements, and membership: over ++, map, when, concatMap and the numbers of a range.
use Rattle.std.specs.Prelude.{◌≡◌, Bool, true, false, ℕ, zero, suc, ◌+◌, ◌≤◌, ◌<◌}
use Rattle.std.proofs.Math.Path.{refl}
use Rattle.std.proofs.Common.{sym, subst, ⊎_elim, eq-or-lt_of_le, arith}
use mathlib.Core.List.Memᴰ
use mathlib.Core.List.{List, [], ◌∷◌, ◌++◌, map, append_assoc, Memᴰ}
use Rattle.tiles.specs.Below.{tabulate}
use Rattle.reading.specs.All.{Each, none, also, Pairwise, ended, first}
use Rattle.reading.specs.search.Readings.{when, concat_map}

-- ---- each element
module _ {A : Type 0} {P : A → Type 0} where
  pub each_append : {xs ys : List A} → Each P xs → Each P ys → Each P (xs ++ ys)
  each_append none q = q
  each_append (also p r) q = also p (each_append r q)

  pub each_imp : {Q : A → Type 0} {xs : List A} → ((x : A) → P x → Q x) → Each P xs → Each Q xs
  each_imp h none = none
  each_imp h (also {x = x} p r) = also (h x p) (each_imp h r)

  pub each_when : (b : Bool) (f : Unit {0} → List A) → (b ≡ true → Each P (f tt)) → Each P (when b f)
  each_when true f h = h refl
  each_when false f h = none

  pub each_all : ((x : A) → P x) → (xs : List A) → Each P xs
  each_all h [] = none
  each_all h (x ∷ xs) = also (h x) (each_all h xs)

  pub each_member : {x : A} {xs : List A} → Each P xs → Memᴰ x xs → P x
  each_member none m = elim m [ ]
  each_member (also p r) (Memᴰ.head e) = rw e p
  each_member (also p r) (Memᴰ.tail m) = each_member r m

module _ {A B : Type 0} {Q : B → Type 0} where
  pub each_map : {P : A → Type 0} (f : A → B) {xs : List A} → ((x : A) → P x → Q (f x)) → Each P xs → Each Q (map f xs)
  each_map f h none = none
  each_map f h (also {x = x} p r) = also (h x p) (each_map f h r)

  pub each_concat : (f : A → List B) {xs : List A} → Each (λ x. Each Q (f x)) xs → Each Q (concat_map f xs)
  unfolding concat_map
  each_concat f none = none
  each_concat f (also p r) = each_append p (each_concat f r)

-- ---- each pair of elements
module _ {A : Type 0} {R : A → A → Type 0} where
  pub pairwise_append : {xs ys : List A} → Pairwise R xs → Pairwise R ys → Each (λ x. Each (R x) ys) xs → Pairwise R (xs ++ ys)
  pairwise_append ended q b = q
  pairwise_append (first h p) q (also d b) = first (each_append h d) (pairwise_append p q b)

  pub pairwise_when : (b : Bool) (f : Unit {0} → List A) → (b ≡ true → Pairwise R (f tt)) → Pairwise R (when b f)
  pairwise_when true f h = h refl
  pairwise_when false f h = ended

  pub pairwise_one : (x : A) → Pairwise R (x ∷ [])
  pairwise_one x = first none ended

  pub pairwise_map : {S : A → A → Type 0} (f : A → A) → ((x y : A) → S x y → R (f x) (f y)) → {xs : List A} → Pairwise S xs → Pairwise R (map f xs)
  pairwise_map f h ended = ended
  pairwise_map f h (first {x = x} p r) = first (each_map f (h x) p) (pairwise_map f h r)

-- the elements of f x have Q x: where S holds of x and y, R holds between what has Q x and what has Q y
module _ {A B : Type 0} {R : B → B → Type 0} {S : A → A → Type 0} (f : A → List B) (Q : A → B → Type 0)
    (q : (x : A) → Each (Q x) (f x)) (s : (x : A) → Pairwise R (f x)) (r : (x y : A) (a b : B) → S x y → Q x a → Q y b → R a b) where
  pub pairwise_concat : {xs : List A} → Pairwise S xs → Pairwise R (concat_map f xs)
  unfolding concat_map
  pairwise_concat ended = ended
  pairwise_concat (first {x = x} h p) =
      pairwise_append (s x) (pairwise_concat p)
      (each_imp (λ a u. each_concat f (each_imp (λ y v. each_imp (λ b w. r x y a b v u w) (q y)) h)) (q x))

-- ---- membership
module _ {A : Type 0} where
  pub mem_when : {x : A} (b : Bool) (f : Unit {0} → List A) → b ≡ true → Memᴰ x (f tt) → Memᴰ x (when b f)
  mem_when b f e m = rw e m

module _ {A B : Type 0} (f : A → List B) where
  pub mem_concat : {x : A} {y : B} {xs : List A} → Memᴰ x xs → Memᴰ y (f x) → Memᴰ y (concat_map f xs)
  unfolding concat_map
  mem_concat {y = y} (Memᴰ.head {xs = xs} e) m = Memᴰ.append_left (concat_map f xs) (subst (λ (z : A). Memᴰ y (f z)) e m)
  mem_concat (Memᴰ.tail {x = z} {xs = xs} n) m = Memᴰ.append_right (f z) (mem_concat n m)

  -- the same at each element gives the same
  pub concat_cong : (g : A → List B) {xs : List A} → Each (λ x. f x ≡ g x) xs → concat_map f xs ≡ concat_map g xs
  unfolding concat_map
  concat_cong g none = refl
  concat_cong g (also {x = x} p r) = rw (p, concat_cong g r)

  pub concat_append : (xs ys : List A) → concat_map f (xs ++ ys) ≡ concat_map f xs ++ concat_map f ys
  unfolding concat_map
  concat_append [] ys = refl
  concat_append (x ∷ xs) ys = rw (concat_append xs ys) (sym (append_assoc (f x) (concat_map f xs) (concat_map f ys)))

  pub concat_map_lem : {C : Type 0} (g : C → A) (xs : List C) → concat_map f (map g xs) ≡ concat_map (λ x. f (g x)) xs
  unfolding concat_map
  concat_map_lem g [] = refl
  concat_map_lem g (x ∷ xs) = rw (concat_map_lem g xs)

-- ---- the n numbers from i on
pub range_in : (n i b : ℕ) → b ≤ i → Each (λ k. (b ≤ k) × (k < i + n)) (tabulate n i (λ k. k))
range_in zero i b h = none
range_in (suc n) i b h = also (h, omega arith) (each_imp (λ k q. (q.0, omega (arith, q.1))) (range_in n (suc i) b (omega arith)))

pub range_ascends : (n i : ℕ) → Pairwise ◌<◌ (tabulate n i (λ k. k))
range_ascends zero i = ended
range_ascends (suc n) i = first (each_imp (λ k q. q.0) (range_in n (suc i) (suc i) (omega arith))) (range_ascends n (suc i))

pub mem_range : (n i k : ℕ) → i ≤ k → k < i + n → Memᴰ k (tabulate n i (λ j. j))
mem_range zero i k h l = absurd (omega arith)
mem_range (suc n) i k h l = ⊎_elim (λ e. Memᴰ.head (sym e)) (λ u. Memᴰ.tail (mem_range n (suc i) k u (omega arith))) (eq-or-lt_of_le h)
