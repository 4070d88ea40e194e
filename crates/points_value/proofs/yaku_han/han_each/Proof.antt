-- `points_value::yaku_han::han_each` meets its contract: the places from i on, once they are set, give the whole.
use Prim.Native.Nat.{ℕ, suc, ◌≤◌, ◌-◌, ◌+◌}
use mathlib.Core.Path.{◌≡◌, refl, ap, ◌∙◌}
use mathlib.Core.Bool.{Bool, false, cond}
use mathlib.Core.List.{List}
use lib.ListN.{length, get_or, set, length-set}
use lib.Seq.{sets}
use borrow.Author.Rules.{rules}
use native.Mathlib.Omega.{arith}
use Rattle.units.specs.declared.Han.{Han}
use Rattle.tiles.specs.Below.{tabulate}
use Rattle.points_value.specs.Han.{han, han_each}
use Rattle.points_value.proofs.laws.Han.{fixed_han, han_at}
use Rattle.points_value.proofs.yaku_han.han_each.Statement.{statement}
use Rattle.points_value.proofs.yaku_han.han_each.Tie as tie

-- what stands at place j but for yaku 3
abbrev fixed_at : List Bool → Bool → ℕ → Han
fixed_at y closed j = han (cond (get_or y j false) (get_or (fixed_han closed) j 0) 0)

abbrev invariant_loop : tie.invariant-loop-i
invariant_loop closed values y each out₀ i₀ out i =
    (i ≤ 37) × (length out ≡ 37) × (sets out i (tabulate (37 - i) i (fixed_at y closed)) ≡ tabulate 37 0 (fixed_at y closed))

abbrev decreases_loop : tie.decreases-loop-i
decreases_loop closed values y each out₀ i₀ out i = 37 - i

-- a turn sets one of them
turn : (f : ℕ → Han) (out : List Han) (i j k : ℕ) (x : Han) → x ≡ f i → j ≡ suc i → 37 - i ≡ suc k → 37 - j ≡ k
    → sets (set out i x) j (tabulate (37 - j) j f) ≡ sets out i (tabulate (37 - i) i f)
turn f out i j k x ex ej e1 e2 = rw (e2, e1, ej, ex)

-- none is left
ended : (f : ℕ → Han) (out : List Han) (i : ℕ) (l : List Han) → i ≤ 37 → 37 ≤ i → sets out i (tabulate (37 - i) i f) ≡ l → out ≡ l
ended f out i l h k e = let z : 37 - i ≡ 0 = omega arith in rw z at e

fixed : (y : List Bool) (closed : Bool) (i n : ℕ) (x : Han) → x.0 ≡ cond (get_or y i false) n 0 → n ≡ get_or (fixed_han closed) i 0 → x ≡ fixed_at y closed i
fixed y closed i n x e q = ap han (e ∙ ap (λ (k : ℕ). cond (get_or y i false) k 0) q)

whole : (y : List Bool) (closed : Bool) (values : ℕ) (out : List Han) (x : Han) → out ≡ tabulate 37 0 (fixed_at y closed) → x.0 ≡ cond (get_or y 3 false) values 0
    → set out 3 x ≡ han_each y closed values
unfolding han_each
whole y closed values out x e q = let z : x ≡ han (cond (get_or y 3 false) values 0) = ap han q in rw (e, z)

pub han_each_spec : {M : Type 1} → statement M
han_each_spec =
    tie.close
    (tie.spec invariant_loop decreases_loop
    (λ c. (search rules, refl, refl))
    (λ c. search rules) (λ c. search rules) (λ c κs. search rules) (λ c. search rules)
    (λ c. omega (arith, c.before.before.loop-i.invariant.1))
    (λ c. search rules)
    (λ c. search rules)
    (λ c.
    let l = c.before.before in
    let a = l.before.args in
    let i = l.loop-i.i in (
      omega arith,
      length-set l.loop-i.out i c.han_for.result ∙ l.loop-i.invariant.1,
      turn (fixed_at a.y a.closed) l.loop-i.out i (i + 1) (36 - i) c.han_for.result
          (fixed a.y a.closed i _ c.han_for.result c.han_for.ensures (han_at a.closed i c.before.loop-i-test.true).0)
          (omega arith) (omega arith) (omega arith)
          ∙ l.loop-i.invariant.2,
    ))
    (λ c. search rules) (λ c κs. search rules)
    (λ c. omega (arith, c.before.before.loop-i.invariant.1))
    (λ c.
    let l = c.before.before in
    let a = l.before.args in
    whole a.y a.closed a.values.0 l.loop-i.out c.han_if.result
    (ended (fixed_at a.y a.closed) l.loop-i.out l.loop-i.i _ l.loop-i.invariant.0 c.before.loop-i-test.false l.loop-i.invariant.2)
    c.han_if.ensures.0))
