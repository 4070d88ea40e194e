-- `yaku_groups::concealed` meets its contract.
use Rattle.std.proofs.Common.{◌≡◌, refl, ◌≤◌, ℕ, List, [], ◌∷◌, length, get_or, rules, arith}
use mathlib.Core.Logic.{◌⊎◌, inl, inr}
use Rattle.tiles.proofs.laws.Below.{cond_le}
use Rattle.yaku_basics.proofs.laws.Ways.{four, byte_small}
use Rattle.yaku_basics.specs.Tests.{is_concealed, concealed}
use Rattle.yaku_groups.proofs.concealed.Invariants.{counted}
use Rattle.yaku_groups.proofs.concealed.Goals as goal

whole : (g ways : List ℕ) → length g ≡ 4 → length ways ≡ 4 → counted g ways ≡ concealed g ways
unfolding concealed
whole g ways e f = rw (four 0 g e, four 0 ways f) (omega arith)

few : (g ways : List ℕ) → concealed g ways ≤ 4
unfolding concealed
few g ways =
    let one = λ (i : ℕ). cond_le (is_concealed (get_or g i 0) (get_or ways i 0)) 1 0 1 (omega arith) (omega arith) in
    omega (arith, one 0, one 1, one 2, one 3)

pub overflow_add-n : goal.overflow_add-n
overflow_add-n c =
    let a = c.args in
    let all = whole a.g a.ways (search rules) (search rules) in
    omega (arith, c.loop-c.invariant, all, few a.g a.ways, c.from-n.ensures, byte_small c.is_concealed.result)

none_first : (a b : List ℕ) → length a ≡ 0 → counted a b ≡ 0
none_first [] b e = refl
none_first (x ∷ a) b e = absurd (omega (arith, e))

none_second : (a b : List ℕ) → length b ≡ 0 → counted a b ≡ 0
none_second [] [] e = refl
none_second (x ∷ a) [] e = refl
none_second a (y ∷ b) e = absurd (omega (arith, e))

none_left : {X Y : Type 0} (a b : List ℕ) → (X → length a ≡ 0) → (Y → length b ≡ 0) → X ⊎ Y → counted a b ≡ 0
none_left a b f g (inl x) = none_first a b (f x)
none_left a b f g (inr y) = none_second a b (g y)

pub returns : goal.returns
returns c =
    let a = c.args in
    let i = c.loop-c.c-iterator in
    omega (
      arith,
      c.loop-c.invariant,
      whole a.g a.ways (search rules) (search rules),
      none_left i.a.rest.now i.b.rest.now (λ x. x.1.0) (λ y. y.1.0) c.in-None.ensures.steps,
    )
