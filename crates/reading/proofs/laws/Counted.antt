-- A loop that tests each number below m by p and counts those with q: at the start, one more, stopped early, done.
use Rattle.std.specs.Prelude.{◌≡◌, Bool, true, false, ◌&&◌, ℕ, ◌+◌, ◌≤◌, ◌<◌, eqb}
use Rattle.std.proofs.Math.Path.{refl}
use Rattle.std.proofs.Common.{le_antisymm, add-one, arith}
use Rattle.tiles.specs.Below.{all_below, count_below}
use Rattle.tiles.proofs.laws.Below.{every_none, every_more, every_stop}

module _ (p q : ℕ → Bool) where
  -- each number below k has p, and n of them have q
  abbrev pub Counted : ℕ → ℕ → Type 0
  Counted k n = (all_below k p ≡ true) × (n ≡ count_below k q) × (n ≤ k)

  pub counted_none : Counted 0 0
  unfolding count_below
  counted_none = (every_none p, refl, omega arith)

  pub counted_one : (k n : ℕ) → Counted k n → p k ≡ true → q k ≡ true → Counted (k + 1) (n + 1)
  unfolding count_below
  counted_one k n h e f = (every_more p k h.0 e, rw (add-one k, f, h.1), omega (arith, h.2))

  pub counted_skip : (k n : ℕ) → Counted k n → p k ≡ true → q k ≡ false → Counted (k + 1) n
  unfolding count_below
  counted_skip k n h e f = (every_more p k h.0 e, rw (add-one k, f, h.1) (omega arith), omega (arith, h.2))

  pub counted_stop : (m k x : ℕ) → k < m → p k ≡ false → false ≡ all_below m p && eqb (count_below m q) x
  counted_stop m k x h e = rw (every_stop p m k h e)

  pub counted_done : (m k n x : ℕ) → k ≤ m → m ≤ k → Counted k n → eqb n x ≡ all_below m p && eqb (count_below m q) x
  counted_done m k n x a b h = rw (le_antisymm b a, h.0, h.1)
