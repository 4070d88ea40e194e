-- A code whose lowest kind has no tile does not fit, and passes.
use Rattle.std.proofs.Common.{◌≡◌, true, false, ◌+◌, ◌-◌, ◌≤◌, ◌<◌, List, ℕ, arith, lt-ltb, le-ltb, get_or}
use Rattle.std.proofs.Math.Bool.{and-false}
use Rattle.tiles.specs.Groups.{is_group}
use Rattle.reading.specs.search.Readings.{fits, passes, NoneFrom, PassedOver}
use Rattle.reading.proofs.laws.Groups.{run_or}
use Rattle.reading_steps.proofs.next_code.Goals as goal
use Rattle.reading_steps.proofs.next_code.Goals.{Joined-code-lt34, then-code-lt34+in_default, else-code-lt34}

-- a code whose lowest kind has no tile
module _ (t : List ℕ) (c : ℕ) where
  absent_run : c < 34 → get_or t c 0 ≡ 0 → (fits t c ≡ false) × (passes t c ≡ true)
  unfolding fits passes
  absent_run h e = (rw (lt-ltb c 34 h, e) (and-false (is_group c)), rw (lt-ltb c 34 h, e))

  absent_triplet : 34 ≤ c → get_or t (c - 34) 0 ≡ 0 → (fits t c ≡ false) × (passes t c ≡ true)
  unfolding fits passes
  absent_triplet h e = (rw (le-ltb c 34 h, e) (and-false (is_group c)), rw (le-ltb c 34 h, e))

-- no run starts from the kinds from `code` on, and no triplet is of those before n
past : (t : List ℕ) (code n : ℕ) → (code < 34 → NoneFrom t code 34) → NoneFrom t (code - 34) n → n ≤ 34 → PassedOver t code (34 + n)
past t code n runs threes l j p q =
    run_or j (λ h. absent_run t j h (runs (omega arith) j p h)) (λ h. absent_triplet t j h (threes (j - 34) (omega arith) (omega arith)))

-- no run starts from the kinds from `code` on
module _ (c : Joined-code-lt34) where
  no_run : c.args.code < 34 → NoneFrom c.args.t.now c.args.code 34
  no_run h = elim c.if-code-lt34.branch [ then-code-lt34+in_default w ↦ w.in_default.ensures | else-code-lt34 w ↦ absurd (omega (arith, w.if-code-lt34.false)) ]

pub returns-in-Some : goal.returns-in-Some
returns-in-Some c =
    let n = c.in-Some.ensures in (n.0, omega (arith, n.1), λ j p q. absent_run c.args.t.now j (omega (arith, n.1)) (n.3 j p q))

pub returns-in_err-k : goal.returns-in_err-k
returns-in_err-k c =
    rw c.from_residual.ensures (past c.args.t.now c.args.code 34 (no_run c.before.before.before.before.before) (rw (← c.saturating_sub.ensures) c.in_err-k.ensures) (omega arith))

pub returns : goal.returns
returns c =
    let n = c.in_ok-k.ensures in
    (omega arith, omega (arith, n.1), past c.args.t.now c.args.code c.in_ok-k.k (no_run c.before.before.before.before) (rw (← c.saturating_sub.ensures) n.3) (omega (arith, n.1)))
