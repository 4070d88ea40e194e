-- The proofs of the claims.
use Rattle.std.specs.Prelude.{ℕ, ◌*◌, ◌+◌, ◌-◌, ◌≤◌, ◌<◌, ◌≡◌}
use Rattle.std.proofs.Common.{arith}
use Rattle.bits.specs.Bits.{width_of}
use Rattle.bits.proofs.laws.Pack.{sum_replicate, sum_append}
use Rattle.unfinished.specs.Unfinished.{length_of, pad_of, widths}
use Rattle.unfinished.proofs.laws.Read.{whole}

-- the widths fill the bytes
pub filled : (m : ℕ) → m ≤ 4 → (width_of (widths m) ≡ 81 - 10 * m + pad_of m) × (81 - 10 * m + pad_of m ≡ 8 * length_of m) × (pad_of m < 8)
unfolding widths
filled m h =
    let w = whole m h in
    (simp sum_append (omega (arith, sum_replicate m 8, sum_replicate (13 - 3 * m) 6)), w.1, w.2)
