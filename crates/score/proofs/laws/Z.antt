-- Linear arithmetic on ℤ, by way of `omega`: each integer z is read as the difference of two naturals, `up z` and `dn z`.
-- For each sum `a +ℤ b` that a goal speaks of, `add_law a b` is one linear equation; orders, equations and ranges are linear facts.
use Rattle.std.specs.Prelude.{◌≡◌, refl, Bool, true, false, cond, ◌⊎◌, ℕ, suc, zero, ◌+◌, ◌-◌, ◌<◌, ◌≤◌, ltb, ℤ, pos, negsuc, neg_ℤ, ◌+ℤ◌, ◌-ℤ◌}
use Rattle.std.proofs.Common.{ap, inl, inr, ⊎_elim, arith, ltb-true, ltb-false, lt-ltb, le-ltb}
use Rattle.std.proofs.Math.IntN.{sub_ℕ}
use Rattle.std.specs.Int.Signed.{mag, lt_z}
pub use Rattle.score.specs.search.Parts.{up, dn, Within}

sub_go : (a b : ℕ) (t : Bool) → ltb a b ≡ t → up (cond t (negsuc (b - suc a)) (pos (a - b))) + b ≡ a + dn (cond t (negsuc (b - suc a)) (pos (a - b)))
sub_go a b true e = omega (arith, ltb-true a b e)
sub_go a b false e = omega (arith, ltb-false a b e)

pub sub_law : (a b : ℕ) → up (sub_ℕ a b) + b ≡ a + dn (sub_ℕ a b)
sub_law a b = sub_go a b (ltb a b) refl

-- one of the two parts is 0
pub part_law : (z : ℤ) → (up z ≡ 0) ⊎ (dn z ≡ 0)
part_law (pos n) = inr refl
part_law (negsuc n) = inl refl

pub add_law : (a b : ℤ) → up (a +ℤ b) + dn a + dn b ≡ up a + up b + dn (a +ℤ b)
add_law (pos a) (pos b) = omega arith
add_law (pos a) (negsuc b) = omega (arith, sub_law a (suc b))
add_law (negsuc a) (pos b) = omega (arith, sub_law b (suc a))
add_law (negsuc a) (negsuc b) = omega arith

pub neg_law : (a : ℤ) → (up (neg_ℤ a) ≡ dn a) × (dn (neg_ℤ a) ≡ up a)
neg_law (pos zero) = (refl, refl)
neg_law (pos (suc n)) = (refl, refl)
neg_law (negsuc n) = (refl, refl)

pub sub_law_z : (a b : ℤ) → up (a -ℤ b) + dn a + up b ≡ up a + dn b + dn (a -ℤ b)
sub_law_z a b = omega (arith, add_law a (neg_ℤ b), neg_law b)

-- an equation of integers is one of their parts
pub eq_parts : (a b : ℤ) → up a + dn b ≡ up b + dn a → a ≡ b
eq_parts (pos a) (pos b) h = ap pos (omega arith)
eq_parts (pos a) (negsuc b) h = absurd (omega arith)
eq_parts (negsuc a) (pos b) h = absurd (omega arith)
eq_parts (negsuc a) (negsuc b) h = ap negsuc (omega arith)

pub parts_eq : (a b : ℤ) → a ≡ b → up a + dn b ≡ up b + dn a
parts_eq a b e = rw e (omega arith)

-- tests
pub lt_z_true : (a b : ℤ) → lt_z a b ≡ true → up a + dn b < up b + dn a
lt_z_true (pos a) (pos b) h = omega (arith, ltb-true a b h)
lt_z_true (pos a) (negsuc b) h = absurd (let z : ◌≡◌ {A = ℕ} 0 1 = cc in omega arith)
lt_z_true (negsuc a) (pos b) h = omega arith
lt_z_true (negsuc a) (negsuc b) h = omega (arith, ltb-true b a h)

pub lt_z_false : (a b : ℤ) → lt_z a b ≡ false → up b + dn a ≤ up a + dn b
lt_z_false (pos a) (pos b) h = omega (arith, ltb-false a b h)
lt_z_false (pos a) (negsuc b) h = omega arith
lt_z_false (negsuc a) (pos b) h = absurd (let z : ◌≡◌ {A = ℕ} 0 1 = cc in omega arith)
lt_z_false (negsuc a) (negsuc b) h = omega (arith, ltb-false b a h)

pub lt_lt_z : (a b : ℤ) → up a + dn b < up b + dn a → lt_z a b ≡ true
lt_lt_z (pos a) (pos b) h = lt-ltb a b (omega arith)
lt_lt_z (pos a) (negsuc b) h = absurd (omega arith)
lt_lt_z (negsuc a) (pos b) h = refl
lt_lt_z (negsuc a) (negsuc b) h = lt-ltb b a (omega arith)

pub le_lt_z : (a b : ℤ) → up b + dn a ≤ up a + dn b → lt_z a b ≡ false
le_lt_z (pos a) (pos b) h = le-ltb a b (omega arith)
le_lt_z (pos a) (negsuc b) h = refl
le_lt_z (negsuc a) (pos b) h = absurd (omega arith)
le_lt_z (negsuc a) (negsuc b) h = le-ltb b a (omega arith)

-- a range, `SFits`, by the parts
pub mag_parts : (z : ℤ) (h : ℕ) → mag z < h → (up z < h) × (dn z ≤ h)
mag_parts (pos n) h l = (omega arith, omega arith)
mag_parts (negsuc n) h l = (omega arith, omega arith)

pub parts_mag : (z : ℤ) (h : ℕ) → up z < h → dn z ≤ h → mag z < h
parts_mag (pos n) h l k = l
parts_mag (negsuc n) h l k = omega arith

pub within_add : (a b : ℤ) (h k : ℕ) → Within a h → Within b k → Within (a +ℤ b) (h + k)
within_add a b h k wa wb =
    ⊎_elim (λ z. (omega (arith, add_law a b), omega (arith, add_law a b))) (λ z. (omega (arith, add_law a b), omega (arith, add_law a b))) (part_law (a +ℤ b))

pub sub_parts : (a b : ℤ) → (up (a -ℤ b) ≤ up a + dn b) × (dn (a -ℤ b) ≤ dn a + up b)
sub_parts a b =
    ⊎_elim (λ z. (omega (arith, sub_law_z a b), omega (arith, sub_law_z a b))) (λ z. (omega (arith, sub_law_z a b), omega (arith, sub_law_z a b)))
    (part_law (a -ℤ b))
