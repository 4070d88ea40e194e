-- An element of an array of a signed integer type fits that type.
use Rattle.std.specs.Prelude.{List, [], ◌∷◌, ℕ, zero, suc, get_or, ℤ, pos}
use Rattle.std.specs.Int.{Width, w8, w16, w32, w64, w128}
use mir.Val.{Val, SFits}
use Rattle.std.proofs.Math.Facts.{sfits_lit}
use denote.Array.{each}
use denote.Shadow.{shadow}
use denote.Signed.{SInt}

zero_sfits : (w : Width) → SFits w (pos 0)
zero_sfits w8 = sfits_lit tt
zero_sfits w16 = sfits_lit tt
zero_sfits w32 = sfits_lit tt
zero_sfits w64 = sfits_lit tt
zero_sfits w128 = sfits_lit tt

pub elem_sfits : (w : Width) (xs : List ℤ) (us : List Val) (i : ℕ) → shadow (each ℤ (SInt w).own_val xs us) → SFits w (get_or xs i (pos 0))
elem_sfits w [] us i p = zero_sfits w
elem_sfits w (x ∷ xs) [] i p = absurd p
elem_sfits w (x ∷ xs) (u ∷ us) zero p = record { sfits = p.0.1 }
elem_sfits w (x ∷ xs) (u ∷ us) (suc i) p = elem_sfits w xs us i p.1
