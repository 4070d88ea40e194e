-- A group that fits is there to be taken.
use Rattle.std.proofs.Common.{◌≡◌, true, List, ℕ, ◌+◌, ◌-◌, ◌≤◌, ◌<◌, arith, lt-ltb, le-ltb, get_or, set, get_or-set_other}
use Rattle.reading.specs.search.Readings.{fits, without, less}
use Rattle.reading.proofs.laws.Groups.{run_in, triplet_in, fits_group, fits_run, fits_triplet}
use Rattle.reading_steps.proofs.without.Goals as goal

-- the stores before leave the later places
module _ (t : List ℕ) (c : ℕ) (f : fits t c ≡ true) (h : c < 34) where
  second : 1 ≤ get_or (less t c 1) (c + 1) 0
  unfolding less
  second = rw (get_or-set_other t c (c + 1) (get_or t c 0 - 1) 0 (omega arith)) (fits_run t c f h).1

  third : 1 ≤ get_or (less (less t c 1) (c + 1) 1) (c + 2) 0
  unfolding less
  third =
      let u = set t c (get_or t c 0 - 1) in
      rw (get_or-set_other u (c + 1) (c + 2) (get_or u (c + 1) 0 - 1) 0 (omega arith), get_or-set_other t c (c + 2) (get_or t c 0 - 1) 0 (omega arith))
      (fits_run t c f h).2

  two_in : c + 2 < 34
  two_in = omega (arith, run_in _ (fits_group t c f) h)

pub overflow_sub-u : goal.overflow_sub-u
overflow_sub-u c = (fits_run _ _ c.requires c.if-code-lt34.true).0

pub bounds-u-c-then-code-lt34-2 : goal.bounds-u-c-then-code-lt34-2
bounds-u-c-then-code-lt34-2 c = omega (arith, two_in _ _ c.requires c.if-code-lt34.true)

pub overflow_sub-u-then-code-lt34 : goal.overflow_sub-u-then-code-lt34
unfolding less
overflow_sub-u-then-code-lt34 c = second _ _ c.requires c.if-code-lt34.true

pub bounds-u-c-then-code-lt34-3 : goal.bounds-u-c-then-code-lt34-3
bounds-u-c-then-code-lt34-3 c = omega (arith, two_in _ _ c.requires c.if-code-lt34.true)

pub bounds-u-c-then-code-lt34-4 : goal.bounds-u-c-then-code-lt34-4
bounds-u-c-then-code-lt34-4 c = two_in _ _ c.requires c.if-code-lt34.true

pub overflow_sub-u-then-code-lt34-2 : goal.overflow_sub-u-then-code-lt34-2
unfolding less
overflow_sub-u-then-code-lt34-2 c = third _ _ c.requires c.if-code-lt34.true

pub bounds-u-c-then-code-lt34-5 : goal.bounds-u-c-then-code-lt34-5
bounds-u-c-then-code-lt34-5 c = two_in _ _ c.requires c.if-code-lt34.true

pub bounds-u-k : goal.bounds-u-k
bounds-u-k c = omega (arith, triplet_in _ (fits_group _ _ c.requires) c.if-code-lt34.false)

pub overflow_sub-u-else-code-lt34 : goal.overflow_sub-u-else-code-lt34
overflow_sub-u-else-code-lt34 c = fits_triplet _ _ c.requires c.if-code-lt34.false

pub bounds-u-k-else-code-lt34 : goal.bounds-u-k-else-code-lt34
bounds-u-k-else-code-lt34 c = omega (arith, triplet_in _ (fits_group _ _ c.requires) c.if-code-lt34.false)

pub returns-then-code-lt34 : goal.returns-then-code-lt34
unfolding without less
returns-then-code-lt34 c = rw (lt-ltb _ _ c.if-code-lt34.true)

pub returns-else-code-lt34 : goal.returns-else-code-lt34
unfolding without less
returns-else-code-lt34 c = rw (le-ltb _ _ c.if-code-lt34.false)
