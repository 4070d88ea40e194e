-- A group that the winning tile completes by ron is open: what it takes off the counts of the ways.
use Rattle.std.specs.Prelude.{◌≡◌, refl, Bool, true, false, ◌&&◌, ◌||◌, cond, List, [], ◌∷◌, leb, ltb, get_or, set, length, Some, None}
use Rattle.std.proofs.Math.Bool.{and-false}
use Prim.Native.Nat.{ℕ, zero, suc, ◌+◌, ◌-◌, ◌<◌, ◌≤◌}
use native.Mathlib.Omega.{arith}
use mir.Val.{bool_byte}
use Rattle.std.proofs.Common.{ltb-true}
use Rattle.std.specs.List.{list_any}
use Rattle.tiles.specs.Below.{any}
use Rattle.tiles.specs.Groups.{is_triplet}
use Rattle.tiles.proofs.laws.Below.{and_true}
use Rattle.yaku_basics.specs.search.Ways.{ways_at}
use Rattle.yaku_basics.specs.Tests.{is_concealed, concealed, kans}

-- a list of four by its elements
pub four {ℓ} : {A : Type ℓ} (d : A) (l : List A) → length l ≡ 4 → l ≡ get_or l 0 d ∷ get_or l 1 d ∷ get_or l 2 d ∷ get_or l 3 d ∷ []
four d [] e = absurd (omega (arith, e))
four d (a ∷ []) e = absurd (omega (arith, e))
four d (a ∷ b ∷ []) e = absurd (omega (arith, e))
four d (a ∷ b ∷ c ∷ []) e = absurd (omega (arith, e))
four d (a ∷ b ∷ c ∷ x ∷ []) e = refl
four d (a ∷ b ∷ c ∷ x ∷ y ∷ l) e = absurd (omega (arith, e))

-- an open triplet is not concealed
open_none : (c : ℕ) → cond (is_concealed c 1) 1 0 ≡ zero
open_none c = rw (and-false (is_triplet c))

module _ (g : List ℕ) (a b c d : ℕ) where
  abbrev ways : List ℕ
  ways = a ∷ b ∷ c ∷ d ∷ []

  concealed_four : (i : ℕ) → i < 4 → concealed g (set ways i 1) + cond (is_concealed (get_or g i 0) (get_or ways i 0)) 1 0 ≡ concealed g ways
  unfolding concealed
  concealed_four zero h = omega (arith, open_none (get_or g 0 0))
  concealed_four (suc zero) h = omega (arith, open_none (get_or g 1 0))
  concealed_four (suc (suc zero)) h = omega (arith, open_none (get_or g 2 0))
  concealed_four (suc (suc (suc zero))) h = omega (arith, open_none (get_or g 3 0))
  concealed_four (suc (suc (suc (suc i)))) h = absurd (omega (arith, h))

  kans_four : (i : ℕ) → i < 4 → kans (set ways i 1) + cond (leb 2 (get_or ways i 0)) 1 0 ≡ kans ways
  unfolding kans
  kans_four zero h = omega arith
  kans_four (suc zero) h = omega arith
  kans_four (suc (suc zero)) h = omega arith
  kans_four (suc (suc (suc zero))) h = omega arith
  kans_four (suc (suc (suc (suc i)))) h = absurd (omega (arith, h))

-- by whether the winning tile completes a group by ron
module _ (ways : List ℕ) (ron : Bool) (place : ℕ) where
  pub ways_same : ron && ltb 0 place ≡ false → ways_at ways ron place ≡ ways
  unfolding ways_at
  ways_same e = rw e

  pub ways_open : ron && ltb 0 place ≡ true → ways_at ways ron place ≡ set ways (place - 1) 1
  unfolding ways_at
  ways_open e = rw e

pub group_placed : (ron : Bool) (place : ℕ) → ron && ltb 0 place ≡ true → 1 ≤ place
group_placed ron place e = ltb-true 0 place (and_true ron (ltb 0 place) e).1

module _ (g ways : List ℕ) (l : length ways ≡ 4) (ron : Bool) (place : ℕ) (few : place ≤ 4) (e : ron && ltb 0 place ≡ true) where
  inside : place - 1 < 4
  inside = omega (arith, few, group_placed ron place e)

  pub concealed_ron : concealed g (ways_at ways ron place) + cond (is_concealed (get_or g (place - 1) 0) (get_or ways (place - 1) 0)) 1 0 ≡ concealed g ways
  concealed_ron =
      rw (ways_open ways ron place e, four 0 ways l)
      (concealed_four g (get_or ways 0 0) (get_or ways 1 0) (get_or ways 2 0) (get_or ways 3 0) (place - 1) inside)

  pub kans_ron : kans (ways_at ways ron place) + cond (leb 2 (get_or ways (place - 1) 0)) 1 0 ≡ kans ways
  kans_ron =
      rw (ways_open ways ron place e, four 0 ways l)
      (kans_four g (get_or ways 0 0) (get_or ways 1 0) (get_or ways 2 0) (get_or ways 3 0) (place - 1) inside)

or_four : (a b c d : Bool) → (a || (b || (c || (d || false)))) ≡ (((a || b) || c) || d)
or_four true b c d = refl
or_four false true c d = refl
or_four false false true d = refl
or_four false false false true = refl
or_four false false false false = refl

-- some of four has p
pub any_four : (p : ℕ → Bool) (l : List ℕ) → length l ≡ 4 → list_any p l ≡ any 4 (λ i. p (get_or l i 0))
any_four p l e = rw (four 0 l e) (or_four (p (get_or l 0 0)) (p (get_or l 1 0)) (p (get_or l 2 0)) (p (get_or l 3 0)))

-- a `bool` as a number, which `u8::from` gives
pub byte_of : (b : Bool) → bool_byte b ≡ cond b 1 0
byte_of true = refl
byte_of false = refl

pub byte_small : (b : Bool) → bool_byte b ≤ 1
byte_small true = omega arith
byte_small false = omega arith

-- a place where b holds, else none
pub opened_some : (b : Bool) (n i : ℕ) → cond b (Some n) None ≡ Some i → (b ≡ true) × (i ≡ n)
opened_some true n i e = (refl, cc)
opened_some false n i e = cc

pub opened_none : (b : Bool) (n : ℕ) → cond b (Some n) None ≡ None → b ≡ false
opened_none true n e = cc
opened_none false n e = refl
