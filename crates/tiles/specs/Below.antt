-- Tests, counts and sums over the numbers below n: tools for lists and tables, no rule of the game. They compute at a numeral.
use Rattle.std.specs.Prelude.{Bool, true, false, ◌&&◌, ◌||◌, cond, List, [], ◌∷◌, ℕ, zero, suc, ◌+◌}

-- p at each k below n
abbrev pub all : ℕ → (ℕ → Bool) → Bool
all zero p = true
all (suc n) p = all n p && p n

-- p at some k below n
abbrev pub any : ℕ → (ℕ → Bool) → Bool
any zero p = false
any (suc n) p = any n p || p n

-- how many k below n have p
abbrev pub count : ℕ → (ℕ → Bool) → ℕ
count zero p = 0
count (suc n) p = count n p + cond (p n) 1 0

-- the sum of f below n
abbrev pub sum : ℕ → (ℕ → ℕ) → ℕ
sum zero f = 0
sum (suc n) f = sum n f + f n

-- f at each of the n numbers from i on
abbrev pub tabulate {ℓ} : {A : Type ℓ} → ℕ → ℕ → (ℕ → A) → List A
tabulate zero i f = []
tabulate (suc n) i f = f i ∷ tabulate n (suc i) f

-- ---- `all`, `any`, `count` and `sum` again, under names that stay shut until a proof opens them, for ranges such as the 34 kinds

-- `all`: p at each k below n
unfoldable pub all_below : ℕ → (ℕ → Bool) → Bool
all_below n p = all n p

-- `any`: p at some k below n
unfoldable pub any_below : ℕ → (ℕ → Bool) → Bool
any_below n p = any n p

-- `count`: how many k below n have p
unfoldable pub count_below : ℕ → (ℕ → Bool) → ℕ
count_below n p = count n p

-- `sum`: the sum of f below n
unfoldable pub sum_below : ℕ → (ℕ → ℕ) → ℕ
sum_below n f = sum n f
