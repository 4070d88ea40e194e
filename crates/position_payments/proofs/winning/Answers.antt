use Rattle.std.proofs.Common.{◌≡◌, ℕ, ◌+◌, ◌*◌, ◌≤◌, ℤ, pos, ◌+ℤ◌, arith}
use Rattle.score.proofs.laws.Z.{Within, within_add}
use Rattle.position.proofs.laws.Bounds.{most_change, most_sticks, most_gift}
use Rattle.position.proofs.laws.Sums.{B32, held, plus_is}
use Rattle.position_payments.proofs.winning.Goals as goal

module _ (z a : ℤ) (k : ℕ) (p : Within z most_change × Within a most_change × (k ≤ most_sticks)) where
  sum_is : B32 (B32 z +ℤ B32 a) ≡ z +ℤ a
  sum_is = let w = p in plus_is z a (omega arith, omega arith) (omega arith, omega arith)

  sum_within : Within (z +ℤ a) (most_change + most_change)
  sum_within = within_add z a most_change most_change p.0 p.1

  within : Within (z +ℤ a +ℤ pos (1000 * k)) most_gift
  within =
      let l = p.2 in
      let b = within_add (z +ℤ a) (pos (1000 * k)) (most_change + most_change) (1000 * most_sticks) sum_within (omega arith, omega arith) in
      (omega arith, omega arith)

  -- y is what the sticks are
  module _ (y : ℤ) (e : y ≡ pos (1000 * k)) where
    sticks_are : B32 y ≡ pos (1000 * k)
    sticks_are = let l = p.2 in rw e (held (pos (1000 * k)) (omega arith, omega arith))

    all_is : B32 (B32 (B32 z +ℤ B32 a) +ℤ B32 y) ≡ z +ℤ a +ℤ pos (1000 * k)
    all_is = rw (sum_is, sticks_are) (let w = within in held (z +ℤ a +ℤ pos (1000 * k)) (omega arith, omega arith))

pub returns-then-wins : goal.returns-then-wins
returns-then-wins c =
    let a = c.args in
    rw (all_is a.change a.added a.sticks c.requires c.more.result c.more.ensures.0)
    (rw c.if-wins.true, within a.change a.added a.sticks c.requires)
