-- What a loop over the numbers below n needs of a test or a sum: at the start, one more, stopped early, done.
use Rattle.std.specs.Prelude.{◌≡◌, ltb, eqb}
use Rattle.std.proofs.Math.Path.{refl}
use Rattle.std.proofs.Common.{sym, eq-or-lt_of_le, le_of_suc-le-suc, not-suc-le-zero, le_antisymm, ltb-true, ltb-false, lt-ltb, le-ltb, eqb-true, eq-eqb, ne_eqb}
use mathlib.Core.Bool.{Bool, true, false, ◌&&◌, ◌||◌, and-false, cond, not}
use Rattle.std.proofs.Math.Logic.{⊎_elim}
use Prim.Native.Nat.{ℕ, zero, suc, ◌+◌, ◌*◌, ◌≤◌, ◌<◌}
use Rattle.std.proofs.Math.Nat.{mul-suc}
use Rattle.std.proofs.Math.Numerals.{add-one}
use native.Mathlib.Omega.{arith}
use Rattle.std.proofs.lemmas.Bool.{eqb-false}
use Rattle.tiles.specs.Below.{all, any, count, all_below, any_below, count_below, sum_below}

pub or_both : (a b : Bool) → a || b ≡ false → (a ≡ false) × (b ≡ false)
or_both true b e = absurd (mathlib.Core.Bool.false≢true (sym e))
or_both false b e = (refl, e)

pub and_true : (a b : Bool) → a && b ≡ true → (a ≡ true) × (b ≡ true)
and_true true b e = (refl, e)
and_true false b e = absurd (mathlib.Core.Bool.false≢true e)

-- two equations that follow from each other
pub same_test : (a b c d : ℕ) → (a ≡ b → c ≡ d) → (c ≡ d → a ≡ b) → eqb a b ≡ eqb c d
same_test a b c d to from = go (eqb c d) refl
  where
    go : (x : Bool) → eqb c d ≡ x → eqb a b ≡ x
    go true e = eq-eqb a b (from (eqb-true c d e))
    go false e = ne_eqb a b (λ q. eqb-false c d e (to q))

-- two tests that follow from each other
pub both_ways : (a b : Bool) → (a ≡ true → b ≡ true) → (b ≡ true → a ≡ true) → a ≡ b
both_ways true b f g = sym (f refl)
both_ways false true f g = g refl
both_ways false false f g = refl

module _ (p : ℕ → Bool) where
  pub every_none : all_below 0 p ≡ true
  unfolding all_below
  every_none = refl

  pub every_more : (i : ℕ) → all_below i p ≡ true → p i ≡ true → all_below (i + 1) p ≡ true
  unfolding all_below
  every_more i h e = rw (add-one, h, e)

  pub every_stop : (n i : ℕ) → i < n → p i ≡ false → all_below n p ≡ false
  unfolding all_below
  every_stop zero i h e = absurd (not-suc-le-zero h)
  every_stop (suc n) i h e =
      ⊎_elim (λ q. rw (← q, e) (and-false (all i p))) (λ l. rw (every_stop n i l e)) (eq-or-lt_of_le (le_of_suc-le-suc h))

  pub every_done : (n i : ℕ) → i ≤ n → n ≤ i → all_below i p ≡ true → all_below n p ≡ true
  every_done n i a b h = rw (le_antisymm b a) h

  pub every_at : (n i : ℕ) → all_below n p ≡ true → i < n → p i ≡ true
  unfolding all_below
  every_at zero i t h = absurd (not-suc-le-zero h)
  every_at (suc n) i t h =
      let both = and_true (all n p) (p n) t in
      ⊎_elim (λ q. rw q both.1) (λ l. every_at n i both.0 l) (eq-or-lt_of_le (le_of_suc-le-suc h))

  pub every_of : (n : ℕ) → ((i : ℕ) → i < n → p i ≡ true) → all_below n p ≡ true
  unfolding all_below
  every_of zero h = refl
  every_of (suc n) h = rw (every_of n (λ i l. h i (omega arith)), h n (omega arith))

or_true : (b : Bool) → b || true ≡ true
or_true true = refl
or_true false = refl

module _ (p : ℕ → Bool) where
  pub some_none : any_below 0 p ≡ false
  unfolding any_below
  some_none = refl

  pub some_more : (i : ℕ) → any_below i p ≡ false → p i ≡ false → any_below (i + 1) p ≡ false
  unfolding any_below
  some_more i h e = rw (add-one, h, e)

  pub some_stop : (n i : ℕ) → i < n → p i ≡ true → any_below n p ≡ true
  unfolding any_below
  some_stop zero i h e = absurd (not-suc-le-zero h)
  some_stop (suc n) i h e =
      ⊎_elim (λ q. rw (← q, e) (or_true (any i p))) (λ l. rw (some_stop n i l e)) (eq-or-lt_of_le (le_of_suc-le-suc h))

  pub some_done : (n i : ℕ) → i ≤ n → n ≤ i → any_below i p ≡ false → any_below n p ≡ false
  some_done n i a b h = rw (le_antisymm b a) h

  pub some_at : (n i : ℕ) → any_below n p ≡ false → i < n → p i ≡ false
  unfolding any_below
  some_at zero i t h = absurd (not-suc-le-zero h)
  some_at (suc n) i t h =
      let both = or_both (any n p) (p n) t in
      ⊎_elim (λ q. rw q both.1) (λ l. some_at n i both.0 l) (eq-or-lt_of_le (le_of_suc-le-suc h))

  pub some_of : (n : ℕ) → ((i : ℕ) → i < n → p i ≡ false) → any_below n p ≡ false
  unfolding any_below
  some_of zero h = refl
  some_of (suc n) h = rw (some_of n (λ i l. h i (omega arith)), h n (omega arith))

pub any_at : (p : ℕ → Bool) (n : ℕ) → any n p ≡ true → (i : ℕ) × (i < n) × (p i ≡ true)
any_at p zero e = absurd (mathlib.Core.Bool.false≢true e)
any_at p (suc n) e = go (λ q. any_at p n q) (any n p) (p n) refl refl e
  where
    go : (any n p ≡ true → (i : ℕ) × (i < n) × (p i ≡ true)) → (a b : Bool) → any n p ≡ a → p n ≡ b → a || b ≡ true → (i : ℕ) × (i < suc n) × (p i ≡ true)
    go h a true q r z = (n, omega arith, r)
    go h true false q r z = let y = h q in (y.0, omega (arith, y.1), y.2)
    go h false false q r z = absurd (mathlib.Core.Bool.false≢true z)

pub any_of : (p : ℕ → Bool) (n i : ℕ) → i < n → p i ≡ true → any n p ≡ true
unfolding any_below
any_of p n i h e = some_stop p n i h e

-- the same test at each number gives the same
pub every_cong : (p q : ℕ → Bool) (n : ℕ) → ((i : ℕ) → i < n → p i ≡ q i) → all_below n p ≡ all_below n q
unfolding all_below
every_cong p q zero h = refl
every_cong p q (suc n) h = rw (every_cong p q n (λ i l. h i (omega arith)), h n (omega arith))

pub some_cong : (p q : ℕ → Bool) (n : ℕ) → ((i : ℕ) → i < n → p i ≡ q i) → any_below n p ≡ any_below n q
unfolding any_below
some_cong p q zero h = refl
some_cong p q (suc n) h = rw (some_cong p q n (λ i l. h i (omega arith)), h n (omega arith))

module _ (f : ℕ → ℕ) where
  pub total_none : 0 ≡ sum_below 0 f
  unfolding sum_below
  total_none = refl

  pub total_more : (i n x : ℕ) → n ≡ sum_below i f → x ≡ f i → n + x ≡ sum_below (i + 1) f
  unfolding sum_below
  total_more i n x e h = rw (add-one, e, h)

  pub total_done : (n i s : ℕ) → i ≤ n → n ≤ i → s ≡ sum_below i f → s ≡ sum_below n f
  total_done n i s a b h = rw (le_antisymm b a) h

  pub total_le : (b n : ℕ) → ((i : ℕ) → i < n → f i ≤ b) → sum_below n f ≤ b * n
  unfolding sum_below
  total_le b zero h = omega arith
  total_le b (suc n) h = rw mul-suc (omega (arith, total_le b n (λ i l. h i (omega arith)), h n (omega arith)))

-- how many have p is a sum of ones
pub number_total : (p : ℕ → Bool) (n : ℕ) → count_below n p ≡ sum_below n (λ i. cond (p i) 1 0)
unfolding count_below sum_below
number_total p zero = refl
number_total p (suc n) = rw (number_total p n)

module _ (p : ℕ → Bool) where
  pub number_none : count_below 0 p ≡ 0
  unfolding count_below
  number_none = refl

  pub number_more : (i : ℕ) → count_below (i + 1) p ≡ count_below i p + cond (p i) 1 0
  unfolding count_below
  number_more i = rw add-one

  pub number_le : (n : ℕ) → count_below n p ≤ n
  unfolding count_below
  number_le zero = omega arith
  number_le (suc n) = go (number_le n) (p n)
    where
      go : count n p ≤ n → (b : Bool) → count n p + cond b 1 0 ≤ suc n
      go h true = omega arith
      go h false = omega arith

-- at one of them, by how many there are
pub any_counted : (p : ℕ → Bool) (n : ℕ) → any n p ≡ ltb 0 (count n p)
any_counted p zero = refl
any_counted p (suc n) = go (p n) (any n p) (any_counted p n)
  where
    go : (b c : Bool) → c ≡ ltb 0 (count n p) → c || b ≡ ltb 0 (count n p + cond b 1 0)
    go true true h = sym (lt-ltb 0 (count n p + 1) (omega arith))
    go true false h = sym (lt-ltb 0 (count n p + 1) (omega arith))
    go false true h = sym (lt-ltb 0 (count n p + 0) (omega (arith, ltb-true 0 (count n p) (sym h))))
    go false false h = sym (le-ltb 0 (count n p + 0) (omega (arith, ltb-false 0 (count n p) (sym h))))

pub all_any : (p : ℕ → Bool) (n : ℕ) → all n p ≡ not (any n (λ i. not (p i)))
all_any p zero = refl
all_any p (suc n) = rw (all_any p n) (go (any n (λ i. not (p i))) (p n))
  where
    go : (b c : Bool) → not b && c ≡ not (b || not c)
    go true c = refl
    go false true = refl
    go false false = refl

-- both branches under a bound
pub cond_le : (b : Bool) (x y n : ℕ) → x ≤ n → y ≤ n → cond b x y ≤ n
cond_le true x y n h g = h
cond_le false x y n h g = g
