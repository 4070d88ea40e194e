-- There are fewer than 2^32 readings of any tally: a count of them in 32 bits never wraps. A bound by the search alone: 34 pairs, four groups
-- of 68 codes, five places, and two other shapes; it says nothing of how few there are.
use Rattle.std.specs.Prelude.{◌≡◌, refl, Bool, true, false, ℕ, zero, suc, ◌+◌, ◌-◌, ◌*◌, ◌≤◌, leb, eqb, length, get_or, replicate}
use mathlib.Core.List.{List, [], ◌∷◌, ◌++◌, map}
use Rattle.std.proofs.Common.{mul-le-mul, length-append}
use native.Mathlib.Omega.{arith}
use Rattle.std.proofs.lemmas.List.{length-map}
use Rattle.tiles.specs.Below.{tabulate}
use Rattle.reading.specs.declared.Reading.{Reading}
use Rattle.reading.specs.Reading.{holds, is_seven_pairs, is_orphans, of_shape}
use Rattle.reading.specs.search.Readings.{when, concat_map, is_empty, less, fits, without, passes, step, splits, placed_at, placed, paired, shaped, readings}

-- ---- how long a list is at most
module _ {A : Type 0} where
  when_few : (b : Bool) (f : Unit {0} → List A) (n : ℕ) → length (f tt) ≤ n → length (when b f) ≤ n
  when_few true f n h = h
  when_few false f n h = omega arith

  append_few : (x y : List A) (m n : ℕ) → length x ≤ m → length y ≤ n → length (x ++ y) ≤ m + n
  append_few x y m n h k = rw (length-append x y) (omega arith)

  concat_few : {C : Type 0} (f : C → List A) (n : ℕ) → ((x : C) → length (f x) ≤ n) → (xs : List C) → length (concat_map f xs) ≤ length xs * n
  unfolding concat_map
  concat_few f n h [] = omega arith
  concat_few f n h (x ∷ xs) = omega (arith, append_few (f x) (concat_map f xs) n (length xs * n) (h x) (concat_few f n h xs))

range_long : (n i : ℕ) → length (tabulate n i (λ k. k)) ≡ n
range_long zero i = refl
range_long (suc n) i = rw (range_long n (suc i))

-- ---- splittings into g groups: each is one of 68 codes
abbrev most : ℕ → ℕ
most zero = 1
most (suc g) = 68 * most g

step_few : (rest : ℕ → ℕ → List ℕ → List (List ℕ)) (b : ℕ) → ((n c : ℕ) (t : List ℕ) → n ≤ 68 → length (rest n c t) ≤ b)
    → (n c : ℕ) (t : List ℕ) → n ≤ 68 → length (step rest n c t) ≤ n * b
unfolding step
step_few rest b h zero c t l = omega arith
step_few rest b h (suc n) c t l =
    let x = rest (suc n) c (without t c) in
    let p : length (map (λ (gs : List ℕ). c ∷ gs) x) ≤ b = rw (length-map x (λ (gs : List ℕ). c ∷ gs)) (h (suc n) c (without t c) l) in
    omega (
      arith,
      append_few (when (fits t c) (λ _. map (λ (gs : List ℕ). c ∷ gs) x)) (when (passes t c) (λ _. step rest n (c + 1) t)) b (n * b)
          (when_few (fits t c) _ b p) (when_few (passes t c) _ (n * b) (step_few rest b h n (c + 1) t (omega arith))),
    )

splits_few : (g n c : ℕ) (t : List ℕ) → n ≤ 68 → length (splits g n c t) ≤ most g
unfolding splits
splits_few zero n c t l = when_few (is_empty t) _ 1 (omega arith)
splits_few (suc g) n c t l =
    omega (arith, step_few (splits g) (most g) (splits_few g) n c t l, mul-le-mul {n₁ = n} {m₁ = most g} {n₂ = 68} {m₂ = most g} l (omega arith))

most_le : (m : ℕ) → most (4 - m) ≤ 21381376
most_le zero = omega arith
most_le (suc zero) = omega arith
most_le (suc (suc zero)) = omega arith
most_le (suc (suc (suc zero))) = omega arith
most_le (suc (suc (suc (suc m)))) = let e : 4 - suc (suc (suc (suc m))) ≡ 0 = omega arith in rw e (omega arith)

-- ---- readings
placed_few : (n win pair : ℕ) (gs : List ℕ) → n ≤ 4 → length (placed n win pair gs) ≤ 5
unfolding placed placed_at
placed_few n win pair gs h =
    omega (
      arith,
      concat_few (placed_at win pair gs) 1 (λ p. when_few (holds pair gs p win) _ 1 (omega arith)) (tabulate (suc n) 0 (λ p. p)),
      range_long
          (suc n) 0,
    )

paired_few : (t : List ℕ) (m win k : ℕ) → length (paired t m win k) ≤ 106906880
unfolding paired
paired_few t m win k =
    let f : List ℕ → List Reading = λ gs. placed (4 - m) win k (gs ++ replicate m 68) in
    let xs = splits (4 - m) 68 0 (less t k 2) in
    when_few (leb 2 (get_or t k 0)) _ 106906880
    (omega (
      arith,
      concat_few f 5 (λ gs. placed_few (4 - m) win k (gs ++ replicate m 68) (omega arith)) xs,
      splits_few (4 - m) 68 0 (less t k 2)
          (omega arith),
      most_le m,
    ))

shaped_few : (t : List ℕ) (m : ℕ) → length (shaped t m) ≤ 2
unfolding shaped
shaped_few t m =
    when_few (eqb m 0) _ 2
    (append_few (when (is_seven_pairs t) (λ _. of_shape 1 ∷ [])) (when (is_orphans t) (λ _. of_shape 2 ∷ [])) 1 1
    (when_few (is_seven_pairs t) _ 1 (omega arith)) (when_few (is_orphans t) _ 1 (omega arith)))

pub readings_few : (t : List ℕ) (m win : ℕ) → length (readings t m win) ≤ 3634833922
unfolding readings
readings_few t m win =
    omega (
      arith,
      append_few (concat_map (paired t m win) (tabulate 34 0 (λ k. k))) (shaped t m) (34 * 106906880) 2
          (concat_few (paired t m win) 106906880 (paired_few t m win) (tabulate 34 0 (λ k. k))) (shaped_few t m),
    )
