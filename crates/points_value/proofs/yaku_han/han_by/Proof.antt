-- `points_value::yaku_han::han_by` meets its contract: n is the sum below i.
use Prim.Native.Nat.{ℕ, ◌≤◌, ◌-◌, ◌*◌}
use mathlib.Core.Path.{◌≡◌, ap, ◌∙◌}
use mathlib.Core.Bool.{false, cond}
use lib.ListN.{get_or}
use borrow.Author.Rules.{rules}
use native.Mathlib.Omega.{arith}
use Rattle.tiles.specs.Below.{sum_below}
use Rattle.tiles.proofs.laws.Below.{cond_le, total_none, total_more, total_done}
use Rattle.points_value.proofs.laws.Han.{fixed_han, han_by, han_at}
use Rattle.points_value.proofs.yaku_han.han_by.Statement.{statement}
use Rattle.points_value.proofs.yaku_han.han_by.Tie as tie

abbrev invariant_loop : tie.invariant-loop-i
invariant_loop closed y each n₀ i₀ n i = (i ≤ 37) × (n ≤ 6 * i) × (n ≡ sum_below i (λ j. cond (get_or y j false) (get_or (fixed_han closed) j 0) 0))

abbrev decreases_loop : tie.decreases-loop-i
decreases_loop closed y each n₀ i₀ n i = 37 - i

-- what a turn adds
abbrev loop : tie.After-han_for-n invariant_loop decreases_loop → tie.At-loop-i invariant_loop decreases_loop
loop c = c.before.before

turn : (c : tie.After-han_for-n invariant_loop decreases_loop) → let a = (loop c).before.args in let i = (loop c).loop-i.i in
    (c.han_for-n.result.0 ≡ cond (get_or a.y i false) (get_or (fixed_han a.closed) i 0) 0) × (c.han_for-n.result.0 ≤ 6)
turn c =
    let a = (loop c).before.args in
    let i = (loop c).loop-i.i in
    let h = han_at a.closed i c.before.loop-i-test.true in
    let e = c.han_for-n.ensures ∙ ap (λ (n : ℕ). cond (get_or a.y i false) n 0) h.0 in
    (e, omega (arith, e, cond_le (get_or a.y i false) (get_or (fixed_han a.closed) i 0) 0 6 h.1 (omega arith)))

pub han_by_spec : {M : Type 1} → statement M
unfolding han_by
han_by_spec =
    tie.close
    (tie.spec invariant_loop decreases_loop
    (λ c. (search rules, search rules, total_none _)) (λ c. search rules) (λ c. search rules) (λ c κs. search rules)
    (λ c. omega (arith, (turn c.before).1)) (λ c. search rules) (λ c. search rules)
    (λ c. (omega arith, omega (arith, (turn c.before).1), total_more _ _ _ _ (loop c.before).loop-i.invariant.2 (turn c.before).0))
    (λ c. (total_done _ 37 _ _ c.before.loop-i.invariant.0 c.loop-i-test.false c.before.loop-i.invariant.2, omega arith)))
