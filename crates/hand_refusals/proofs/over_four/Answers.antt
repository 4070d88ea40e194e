use Rattle.std.proofs.Common.{◌≡◌, Bool, ◌||◌, ℕ, ◌+◌, ltb, get_or, add-one, sym, ap, ◌∙◌, arith}
use Rattle.tiles.specs.Below.{any_below}
use Rattle.tiles.proofs.laws.Below.{some_none}
use Rattle.hand.specs.Held.{over_four}
use Rattle.hand_refusals.proofs.over_four.Goals as goal

next : (p : ℕ → Bool) (k : ℕ) (b : Bool) → b ≡ any_below k p → (b || p k) ≡ any_below (k + 1) p
unfolding any_below
next p k b e = rw (add-one, e)

pub loop-n-init : goal.loop-n-init
loop-n-init c = sym (some_none _)

pub loop-n-preserved : goal.loop-n-preserved
loop-n-preserved c = next _ _ _ c.loop-n.invariant

pub returns : goal.returns
unfolding over_four
returns c =
    let l = c.loop-n in
    let e : l.n-index ≡ 34 = omega arith in
    l.invariant ∙ ap (λ (n : ℕ). any_below n (λ j. ltb 4 (get_or c.args.t j 0))) e
