-- Rounding takes nothing away.
use Rattle.std.specs.Prelude.{◌≡◌, refl, Bool, true, false, ◌&&◌, not, cond, ℕ, ◌+◌, ◌*◌, ◌/◌, ◌≤◌, eqb}
use Rattle.std.proofs.Common.{eqb-true}
use native.Mathlib.Omega.{arith}
use Rattle.tiles.proofs.laws.Below.{and_true}
use Rattle.points_fu.specs.Fu.{rounded}

at_least : (b : Bool) (n t : ℕ) → n ≤ t → (b ≡ true → t ≡ 20) → n ≤ cond b 30 t
at_least true n t h e = omega (arith, e refl)
at_least false n t h e = h

-- rounding takes nothing away
pub rounded_up : (closed : Bool) (n : ℕ) → n ≤ rounded closed n
unfolding rounded
rounded_up closed n =
    let t = (n + 9) / 10 * 10 in
    at_least (not closed && eqb t 20) n t (omega arith) (λ e. eqb-true t 20 (and_true (not closed) (eqb t 20) e).1)
