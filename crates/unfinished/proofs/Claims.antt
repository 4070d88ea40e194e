-- The theorems of the unfinished hand's bytes (02, S-1).
use Rattle.std.specs.Prelude.{ℕ, ◌+◌, ◌*◌, ◌-◌, ◌≤◌, ◌<◌, ◌≡◌, ◌↔◌, List}
use Rattle.bits.specs.Bits.{width_of}
use Rattle.unfinished.specs.Unfinished.{length_of, pad_of, widths, refusal_of, IsSound}
use Rattle.unfinished.proofs.laws.Sound as laws
use Rattle.unfinished.proofs.laws.Claims as claims

-- "zero bits to the byte (81 − 10m bits)": with under 8 zero bits the widths of the fields are its bytes
pub widths_fill : (m : ℕ) → m ≤ 4 → (width_of (widths m) ≡ 81 - 10 * m + pad_of m) × (81 - 10 * m + pad_of m ≡ 8 * length_of m) × (pad_of m < 8)
widths_fill = claims.filled

-- an input that meets none of "Read's checks 1 to 4" is refused for nothing, and the reverse
pub sound : (s : List ℕ) → IsSound s ↔ (refusal_of s ≡ 0)
sound s = (laws.sound_read s, laws.read_sound s)
