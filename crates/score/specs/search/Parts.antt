-- An integer as the difference of two naturals, of which one is 0, and a bound of both: that no sum of such numbers wraps is linear in them.
use Rattle.std.specs.Prelude.{ℕ, suc, ◌≤◌, ℤ, pos, negsuc}

abbrev pub up : ℤ → ℕ
up (pos n) = n
up (negsuc n) = 0

abbrev pub dn : ℤ → ℕ
dn (pos n) = 0
dn (negsuc n) = suc n

-- what only asks that no sum wraps: both parts within a bound
abbrev pub Within : ℤ → ℕ → Type 0
Within z h = (up z ≤ h) × (dn z ≤ h)
