-- The states of a regular hand and the choices at a kind, read back.
use Rattle.std.specs.Prelude.{◌≡◌, refl, Bool, true, ◌&&◌, cond, ℕ, zero, suc, ◌+◌, ◌-◌, ◌*◌, ◌/◌, ◌%◌, ◌≤◌, ◌<◌, leb, ltb, eqb, get_or}
use Rattle.std.proofs.Common.{arith, leb-true, ltb-true, eqb-true, le-leb}
use Rattle.tiles.specs.Below.{all_below}
use Rattle.tiles.proofs.laws.Below.{every_at, and_true}
use Rattle.ready_choices.specs.search.Moves.{begun, tetra, triangle, place, a_of, b_of, g_of, p_of, state, x_of, y_of, z_of}

-- ---- read back from its place: by trying all
placed : ℕ → ℕ → ℕ → Bool
placed a b g =
    cond (leb (a + b + g) 4)
    (ltb (place a b g) 35
    && (eqb (get_or begun (place a b g) 0 % 5) a && (eqb (get_or begun (place a b g) 0 / 5 % 5) b && eqb (get_or begun (place a b g) 0 / 25) g))) true

placed_all : all_below 125 (λ c. placed (c / 25) (c / 5 % 5) (c % 5)) ≡ true
unfolding all_below placed place tetra triangle
placed_all = refl

small : ℕ → Bool
small i = leb (get_or begun i 0 % 5 + get_or begun i 0 / 5 % 5 + get_or begun i 0 / 25) 4

small_all : all_below 35 small ≡ true
unfolding all_below small
small_all = refl

-- what a state has comes to 4 at most
pub state_small : (s : ℕ) → s < 70 → a_of s + b_of s + g_of s ≤ 4
unfolding a_of b_of g_of small
state_small s h = leb-true _ _ (every_at small 35 (s / 2) small_all (omega arith))

pub record Read (a b g p s : ℕ) : Type 0 where
  pub low : s < 70
  pub runs_a : a_of s ≡ a
  pub runs_b : b_of s ≡ b
  pub groups : g_of s ≡ g
  pub pairs : p_of s ≡ p

placed_at : (a b g : ℕ) → a + b + g ≤ 4 → placed a b g ≡ true
placed_at a b g h =
    let c = 25 * a + 5 * b + g in
    let ca : c / 25 ≡ a = omega arith in
    let cf : c / 5 ≡ 5 * a + b = omega arith in
    let cb : c / 5 % 5 ≡ b = rw cf (omega arith) in
    let cg : c % 5 ≡ g = omega arith in
    rw (ca, cb, cg) at (every_at (λ c. placed (c / 25) (c / 5 % 5) (c % 5)) 125 c placed_all (omega arith))

read_place : (a b g : ℕ) → a + b + g ≤ 4 →
    (place a b g < 35) × (get_or begun (place a b g) 0 % 5 ≡ a) × (get_or begun (place a b g) 0 / 5 % 5 ≡ b) × (get_or begun (place a b g) 0 / 25 ≡ g)
unfolding placed
read_place a b g h =
    let e = rw (le-leb (a + b + g) 4 h) at (placed_at a b g h) in
    let i = place a b g in
    let e1 = and_true (ltb i 35) (eqb (get_or begun i 0 % 5) a && (eqb (get_or begun i 0 / 5 % 5) b && eqb (get_or begun i 0 / 25) g)) e in
    let e2 = and_true (eqb (get_or begun i 0 % 5) a) (eqb (get_or begun i 0 / 5 % 5) b && eqb (get_or begun i 0 / 25) g) e1.1 in
    let e3 = and_true (eqb (get_or begun i 0 / 5 % 5) b) (eqb (get_or begun i 0 / 25) g) e2.1 in
    (ltb-true _ _ e1.0, eqb-true _ _ e2.0, eqb-true _ _ e3.0, eqb-true _ _ e3.1)

pub state_read : (a b g p : ℕ) → a + b + g ≤ 4 → p ≤ 1 → Read a b g p (state a b g p)
unfolding state a_of b_of g_of
state_read a b g p h q =
    let (l, x, y, z) = read_place a b g h in
    let i = place a b g in
    let half : (2 * i + p) / 2 ≡ i = omega arith in
    record {
      low = omega arith;
      runs_a = rw half x;
      runs_b = rw half y;
      groups = rw half z;
      pairs = omega arith;
    }

-- ---- choices
-- the choice of x runs, y triplets, z pairs
pub record Chosen (x y z : ℕ) : Type 0 where
  pub e : ℕ
  pub low : e < 10
  pub runs : x_of e ≡ x
  pub triplets : y_of e ≡ y
  pub pairs : z_of e ≡ z

-- there is one for whatever four tiles can be
pub chosen : (x y z : ℕ) → x + 3 * y + 2 * z ≤ 4 → z ≤ 1 → Chosen x y z
unfolding x_of y_of z_of
chosen zero zero zero h g = record { e = 0; low = omega arith; runs = refl; triplets = refl; pairs = refl }
chosen (suc zero) zero zero h g = record { e = 3; low = omega arith; runs = refl; triplets = refl; pairs = refl }
chosen (suc (suc zero)) zero zero h g = record { e = 5; low = omega arith; runs = refl; triplets = refl; pairs = refl }
chosen (suc (suc (suc zero))) zero zero h g = record { e = 8; low = omega arith; runs = refl; triplets = refl; pairs = refl }
chosen (suc (suc (suc (suc zero)))) zero zero h g = record { e = 9; low = omega arith; runs = refl; triplets = refl; pairs = refl }
chosen (suc (suc (suc (suc (suc x))))) zero zero h g = absurd (omega arith)
chosen zero zero (suc zero) h g = record { e = 1; low = omega arith; runs = refl; triplets = refl; pairs = refl }
chosen (suc zero) zero (suc zero) h g = record { e = 4; low = omega arith; runs = refl; triplets = refl; pairs = refl }
chosen (suc (suc zero)) zero (suc zero) h g = record { e = 6; low = omega arith; runs = refl; triplets = refl; pairs = refl }
chosen (suc (suc (suc x))) zero (suc zero) h g = absurd (omega arith)
chosen zero (suc zero) zero h g = record { e = 2; low = omega arith; runs = refl; triplets = refl; pairs = refl }
chosen (suc zero) (suc zero) zero h g = record { e = 7; low = omega arith; runs = refl; triplets = refl; pairs = refl }
chosen (suc (suc x)) (suc zero) zero h g = absurd (omega arith)
chosen x zero (suc (suc z)) h g = absurd (omega arith)
chosen x (suc zero) (suc z) h g = absurd (omega arith)
chosen x (suc (suc y)) z h g = absurd (omega arith)

-- ---- products of small numbers
pub product_low : (n : ℕ) → n ≤ 4 → (n * (n + 1) ≤ 20) × (n * (n + 1) * (n + 2) ≤ 120)
product_low zero h = (omega arith, omega arith)
product_low (suc zero) h = (omega arith, omega arith)
product_low (suc (suc zero)) h = (omega arith, omega arith)
product_low (suc (suc (suc zero))) h = (omega arith, omega arith)
product_low (suc (suc (suc (suc zero)))) h = (omega arith, omega arith)
product_low (suc (suc (suc (suc (suc n))))) h = absurd (omega arith)

-- the next smaller sum
pub tetra_less : (n : ℕ) → n ≤ 4 → 1 ≤ n → tetra n ≡ tetra (n - 1) + triangle n
unfolding tetra triangle
tetra_less zero h l = absurd (omega arith)
tetra_less (suc zero) h l = refl
tetra_less (suc (suc zero)) h l = refl
tetra_less (suc (suc (suc zero))) h l = refl
tetra_less (suc (suc (suc (suc zero)))) h l = refl
tetra_less (suc (suc (suc (suc (suc n))))) h l = absurd (omega arith)
