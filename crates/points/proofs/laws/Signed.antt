-- A signed number passes through its bits unchanged.
use Rattle.std.specs.Prelude.{◌≡◌, ◌<◌, ◌^◌, ℤ}
use Rattle.std.proofs.Common.{◌∙◌, to_z, of_z}
use Rattle.std.specs.Int.Signed.{mag}
use Rattle.std.specs.Int.{w32}
use Rattle.std.proofs.lemmas.Int.{to_z-of_z}

-- the z that a call gave, with its range and what the call ensures of it
pub back : (z d : ℤ) → mag z < 2 ^ 31 → z ≡ d → to_z w32 (of_z w32 z) ≡ d
back z d h e = to_z-of_z w32 z (record { sfits = h }) ∙ e
