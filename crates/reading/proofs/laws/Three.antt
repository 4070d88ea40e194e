-- A tally has at most three splittings into at most four groups. Where a run can be taken and passed too its kind goes by threes: taken, there are
-- three such runs; passed, a triplet of its kind is due. So the tiles of the kinds passed tell how many groups are free.
use Rattle.std.specs.Prelude.{◌≡◌, Bool, cond, eqb, get_or}
use Rattle.std.proofs.Math.Path.{refl}
use Rattle.std.proofs.Common.{◌∙◌, add-one, length-append}
use Rattle.std.proofs.Math.Bool.{true, false}
use mathlib.Core.List.{List, [], ◌∷◌, map}
use Prim.Native.Nat.{ℕ, zero, suc, ◌+◌, ◌-◌, ◌*◌, ◌/◌, ◌%◌, ◌≤◌, ◌<◌}
use native.Mathlib.Omega.{arith}
use borrow.Author.Tests.{lt-ltb, le-ltb, ltb-true, ltb-false, eqb-true}
use Rattle.std.proofs.Math.Dec.{ltb}
use Rattle.std.proofs.Math.ListN.{length}
use Rattle.std.proofs.lemmas.List.{length-map}
use Rattle.tiles.specs.Below.{sum}
use Rattle.tiles.specs.Groups.{at_kind, uses}
use Rattle.tiles.proofs.laws.Sums.{sum_cong, sum_add, sum_at}
use Rattle.reading.specs.All.{Each, also}
use Rattle.reading.specs.Reading.{used_by, Ascends}
use Rattle.reading.specs.search.Readings.{when, is_empty, fits, without, passes, step, splits}
use Rattle.reading.proofs.laws.Groups.{run_or, at_same, at_other, fits_triplet, without_at, without_long}
use Rattle.reading.proofs.laws.Splits.{Splits, splits_sound}
use Rattle.reading.proofs.laws.Suits.{three_at}

sum_zero : (f : ℕ → ℕ) (n : ℕ) → ((i : ℕ) → i < n → f i ≡ 0) → sum n f ≡ 0
sum_zero f zero h = refl
sum_zero f (suc n) h = omega (arith, sum_zero f n (λ i l. h i (omega arith)), h n (omega arith))

-- ---- the tiles of the kinds below c
abbrev below : ℕ → List ℕ → ℕ
below c t = sum c (λ k. get_or t k 0)

-- a group from c on: a run has none of them, a triplet at most three
module _ (c g : ℕ) (h : c ≤ g) where
  run_below : g < 34 → (k : ℕ) → k < c → uses g k ≡ 0
  unfolding uses
  run_below l k i =
      rw (lt-ltb g 34 l) (omega (arith, at_other g 1 k (λ e. omega arith), at_other (g + 1) 1 k (λ e. omega arith), at_other (g + 2) 1 k (λ e. omega arith)))

  run_at : g < 34 → uses g c ≡ at_kind g 1 c
  unfolding uses
  run_at l = rw (lt-ltb g 34 l) (omega (arith, at_other (g + 1) 1 c (λ e. omega arith), at_other (g + 2) 1 c (λ e. omega arith)))

  triplet_below : 34 ≤ g → sum c (uses g) ≤ 3
  unfolding uses
  triplet_below l =
      let e = sum_cong (uses g) (at_kind (g - 34) 3) c (λ i h. rw (le-ltb g 34 l)) in
      omega (arith, go (ltb (g - 34) c) refl)
    where
      go : (b : Bool) → ltb (g - 34) c ≡ b → sum c (at_kind (g - 34) 3) ≤ 3
      go true e = omega (arith, sum_at (g - 34) 3 c (ltb-true (g - 34) c e))
      go false e = let m = ltb-false (g - 34) c e in omega (arith, sum_zero (at_kind (g - 34) 3) c (λ i l. at_other (g - 34) 3 i (λ z. omega arith)))

  triplet_at : 34 ≤ g → uses g c % 3 ≡ 0
  unfolding uses
  triplet_at l = rw (le-ltb g 34 l) (omega (arith, three_at g c l))

at_one : (g c : ℕ) → at_kind g 1 c ≤ 1
unfolding at_kind
at_one g c = go (eqb g c)
  where
    go : (b : Bool) → cond b 1 0 ≤ 1
    go true = omega arith
    go false = omega arith

-- groups from c on have room for the tiles below c, and for as many runs of c as its tiles are over threes
groups_below : (gs : List ℕ) (c d : ℕ) → c ≤ d → Ascends d gs → sum c (used_by gs) + 3 * (used_by gs c % 3) ≤ 3 * length gs
unfolding used_by
groups_below [] c d h o = omega (arith, sum_zero (λ k. 0) c (λ i l. refl))
groups_below (g ∷ gs) c d h o =
    let r = groups_below gs c g (omega (arith, o.0)) o.2 in
    let e = sum_add (uses g) (used_by gs) c in
    let l : c ≤ g = omega (arith, o.0) in
    run_or g
    (λ m.
    let z = sum_zero (uses g) c (run_below c g l m) in
    let u : uses g c ≤ 1 = omega (arith, run_at c g l m, at_one g c) in
    omega arith)
    (λ m.
    let z = triplet_below c g l m in
    let u = triplet_at c g l m in
    omega arith)

splits_below : (c n : ℕ) (t gs : List ℕ) → Splits c t n gs → below c t + 3 * (get_or t c 0 % 3) ≤ 3 * n
splits_below c n t gs s =
    let e = sum_cong (λ k. get_or t k 0) (used_by gs) c (λ i l. s.tiles i) in
    omega (arith, groups_below gs c c (omega arith) s.order, s.size, s.tiles c)

-- ---- past the runs a kind is taken or passed
step_length : (rest : ℕ → ℕ → List ℕ → List (List ℕ)) (m c : ℕ) (t : List ℕ) (f p : Bool) → fits t c ≡ f → passes t c ≡ p →
    length (step rest (suc m) c t) ≡ cond f (length (rest (suc m) c (without t c))) 0 + cond p (length (step rest m (c + 1) t)) 0
unfolding step
step_length rest m c t f p e g =
    rw (e, g) (length-append (when f (λ _. map (λ (gs : List ℕ). c ∷ gs) (rest (suc m) c (without t c)))) (when p (λ _. step rest m (c + 1) t)) ∙ go f p)
  where
    go : (f p : Bool) →
        length (when f (λ _. map (λ (gs : List ℕ). c ∷ gs) (rest (suc m) c (without t c)))) + length (when p (λ _. step rest m (c + 1) t))
        ≡ cond f (length (rest (suc m) c (without t c))) 0 + cond p (length (step rest m (c + 1) t)) 0
    go true true = rw (length-map (rest (suc m) c (without t c)) (λ (gs : List ℕ). c ∷ gs))
    go true false = rw (length-map (rest (suc m) c (without t c)) (λ (gs : List ℕ). c ∷ gs))
    go false true = refl
    go false false = refl

passes_run : (t : List ℕ) (c : ℕ) → c < 34 → passes t c ≡ true → get_or t c 0 % 3 ≡ 0
unfolding passes
passes_run t c l e = eqb-true (get_or t c 0 % 3) 0 (rw (lt-ltb c 34 l) at e)

passes_triplet : (t : List ℕ) (c : ℕ) → 34 ≤ c → passes t c ≡ true → get_or t (c - 34) 0 ≡ 0
unfolding passes
passes_triplet t c l e = eqb-true (get_or t (c - 34) 0) 0 (rw (le-ltb c 34 l) at e)

module _ (n : ℕ) (rest : (m c : ℕ) (t : List ℕ) → 34 ≤ c → length (splits n m c t) ≤ 1) where
  late_step : (m c : ℕ) (t : List ℕ) → 34 ≤ c → length (step (splits n) m c t) ≤ 1
  unfolding step
  late_step zero c t l = omega arith
  late_step (suc m) c t l = go (fits t c) (passes t c) refl refl (late_step m (c + 1) t (omega arith))
    where
      go : (f p : Bool) → fits t c ≡ f → passes t c ≡ p → length (step (splits n) m (c + 1) t) ≤ 1 → length (step (splits n) (suc m) c t) ≤ 1
      go true true e g w = absurd (omega (arith, fits_triplet t c e l, passes_triplet t c l g))
      go true false e g w = omega (arith, step_length (splits n) m c t true false e g, rest (suc m) c (without t c) l)
      go false true e g w = omega (arith, step_length (splits n) m c t false true e g)
      go false false e g w = omega (arith, step_length (splits n) m c t false false e g)

leaf_length : (b : Bool) → length (when {A = List ℕ} b (λ _. [] ∷ [])) ≤ 1
leaf_length true = omega arith
leaf_length false = omega arith

late : (n m c : ℕ) (t : List ℕ) → 34 ≤ c → length (splits n m c t) ≤ 1
unfolding splits
late zero m c t l = leaf_length (is_empty t)
late (suc n) m c t l = late_step n (late n) m c t l

-- ---- the groups that are free: those that neither the tiles below c nor the runs of c take, but for two
abbrev free : ℕ → ℕ → List ℕ → ℕ
free n c t = n - (2 + get_or t c 0 % 3 + below c t / 3)

some_of : {P : List ℕ → Type 0} (l : List (List ℕ)) → Each P l → 1 ≤ length l → (x : List ℕ) × P x
some_of [] e h = absurd (omega arith)
some_of (x ∷ l) (also p e) h = (x, p)

-- below c there are s tiles, of c x, and y once a run of c is taken; a splittings take it and b pass it
free_sum : (n v w z a b : ℕ) → n ≤ 3 → v + 1 ≤ w → a ≤ 1 + (n - (4 + v)) → (1 ≤ a → v + 2 ≤ n) → b ≤ 1 + (suc n - (2 + z + w)) → a + b ≤ 1 + (suc n - (2 + v))
free_sum n v w z zero b h e p q r = omega arith
free_sum n v w z (suc a) b h e p q r = let i = q (omega arith) in omega arith

free_both : (n s x y z a b : ℕ) → n ≤ 3 → x ≡ 1 + y → x % 3 ≡ 0 → a ≤ 1 + (n - (2 + y % 3 + s / 3)) → (1 ≤ a → s + 3 * (y % 3) ≤ 3 * n) →
    b ≤ 1 + (suc n - (2 + z + (s + x) / 3)) → a + b ≤ 1 + (suc n - (2 + x % 3 + s / 3))
free_both n s x y z a b h e r p q w =
    let i : y % 3 ≡ 2 = omega (arith, e, r) in
    rw r (free_sum n (s / 3) ((s + x) / 3) z a b h (omega (arith, e, r)) (rw i at p) (λ j. let k = q j in omega (arith, i, k)) w)

free_take : (n s x y a : ℕ) → x ≡ 1 + y → a ≤ 1 + (n - (2 + y % 3 + s / 3)) → a ≤ 1 + (suc n - (2 + x % 3 + s / 3))
free_take n s x y a e p = omega arith

free_pass : (n s x z b : ℕ) → x % 3 ≡ 0 → b ≤ 1 + (suc n - (2 + z + (s + x) / 3)) → b ≤ 1 + (suc n - (2 + x % 3 + s / 3))
free_pass n s x z b r p = omega arith

module _ (n : ℕ) (few : n ≤ 3) (rest : (m c : ℕ) (t : List ℕ) → length t ≡ 34 → length (splits n m c t) ≤ 1 + free n c t) where
  three_step : (m c : ℕ) (t : List ℕ) → length t ≡ 34 → length (step (splits n) m c t) ≤ 1 + free (suc n) c t
  unfolding step
  three_step zero c t l = omega arith
  three_step (suc m) c t l =
      run_or c (λ h. go h (fits t c) (passes t c) refl refl (three_step m (c + 1) t l)) (λ h. omega (arith, late_step n (late n) (suc m) c t h))
    where
      u : List ℕ
      u = without t c

      same : c < 34 → fits t c ≡ true → below c u ≡ below c t
      same h e =
          sum_cong (λ k. get_or u k 0) (λ k. get_or t k 0) c (λ k i. omega (arith, without_at t c e k, run_below c c (omega arith) h k i))

      one : c < 34 → fits t c ≡ true → get_or t c 0 ≡ 1 + get_or u c 0
      one h e = omega (arith, without_at t c e c, run_at c c (omega arith) h, at_same c 1)

      more : below (c + 1) t ≡ below c t + get_or t c 0
      more = rw add-one

      go : c < 34 → (f p : Bool) → fits t c ≡ f → passes t c ≡ p → length (step (splits n) m (c + 1) t) ≤ 1 + free (suc n) (c + 1) t
          → length (step (splits n) (suc m) c t) ≤ 1 + free (suc n) c t
      go h true true e g w =
          let k = step_length (splits n) m c t true true e g in
          let r = rw (same h e) at (rest (suc m) c u (without_long t c l)) in
          let b = rw more at w in
          rw k
          (free_both n (below c t) (get_or t c 0) (get_or u c 0) (get_or t (c + 1) 0 % 3) _ _ few (one h e) (passes_run t c h g) r
          (λ i. let x = some_of (splits n (suc m) c u) (splits_sound n (suc m) c u (without_long t c l)) i in
          rw (same h e) at (splits_below c n u x.0 x.1)) b)
      go h true false e g w =
          let k = step_length (splits n) m c t true false e g in
          let r = rw (same h e) at (rest (suc m) c u (without_long t c l)) in
          omega (arith, free_take n (below c t) (get_or t c 0) (get_or u c 0) _ (one h e) r)
      go h false true e g w =
          let k = step_length (splits n) m c t false true e g in
          let b = rw more at w in
          omega (arith, free_pass n (below c t) (get_or t c 0) (get_or t (c + 1) 0 % 3) _ (passes_run t c h g) b)
      go h false false e g w = omega (arith, step_length (splits n) m c t false false e g)

splits_free : (n m c : ℕ) (t : List ℕ) → n ≤ 4 → length t ≡ 34 → length (splits n m c t) ≤ 1 + free n c t
unfolding splits
splits_free zero m c t h l = omega (arith, leaf_length (is_empty t))
splits_free (suc n) m c t h l = three_step n (omega arith) (λ m c t l. splits_free n m c t (omega arith) l) m c t l

-- at most three
pub splits_three : (n m c : ℕ) (t : List ℕ) → n ≤ 4 → length t ≡ 34 → length (splits n m c t) ≤ 3
splits_three n m c t h l = omega (arith, splits_free n m c t h l)
