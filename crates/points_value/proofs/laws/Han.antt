-- The han of each yaku as the code has them: one number for closed and open, and what yaku 3 counts apart.
use Rattle.std.specs.Prelude.{◌≡◌, refl, Bool, true, false, ◌&&◌, cond, List, ℕ, zero, ◌+◌, ◌*◌, ◌/◌, ◌%◌, ◌≤◌, ◌<◌, eqb, leb, get_or}
use Rattle.std.proofs.Common.{arith, eqb-true, leb-true}
use Rattle.tiles.specs.Below.{tabulate, all_below, sum_below}
use Rattle.tiles.proofs.laws.Below.{every_at, and_true}
use Rattle.points_value.specs.Han.{yaku_han}
pub use Rattle.points_value.specs.search.Han.{fixed_han}
unfoldable pub use Rattle.points_value.specs.search.Han.{han_by}

pub none : (b : Bool) → cond b 0 0 ≡ zero
none true = refl
none false = refl

pub values_apart : (y : List Bool) (closed : Bool) (values : ℕ) → yaku_han y closed values ≡ han_by y (fixed_han closed) + cond (get_or y 3 false) values 0
unfolding yaku_han han_by sum_below
values_apart y closed values = omega (arith, none (get_or y 3 false))

-- 16 times the han of a closed hand, and those of an open one
abbrev pub both_han : List ℕ
both_han = tabulate 37 0 (λ n. 16 * get_or (fixed_han true) n 0 + get_or (fixed_han false) n 0)

test : (a b : ℕ) → eqb a b && leb b 6 ≡ true → (a ≡ b) × (b ≤ 6)
test a b e =
    let p = and_true (eqb a b) (leb b 6) e in
    (eqb-true a b p.0, leb-true b 6 p.1)

-- no yaku has over 6 han
pub han_at : (closed : Bool) (i : ℕ) → i < 37 → (cond closed (get_or both_han i 0 / 16) (get_or both_han i 0 % 16) ≡ get_or (fixed_han closed) i 0)
    × (get_or (fixed_han closed) i 0 ≤ 6)
unfolding all_below
han_at true i h = test _ _ (every_at (λ k. eqb (get_or both_han k 0 / 16) (get_or (fixed_han true) k 0) && leb (get_or (fixed_han true) k 0) 6) 37 i refl h)
han_at false i h = test _ _ (every_at (λ k. eqb (get_or both_han k 0 % 16) (get_or (fixed_han false) k 0) && leb (get_or (fixed_han false) k 0) 6) 37 i refl h)
