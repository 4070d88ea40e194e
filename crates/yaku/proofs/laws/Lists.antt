-- Laws of bools and of lists of them.
use Rattle.std.specs.Prelude.{◌≡◌, refl, Bool, true, false, ◌&&◌, ◌||◌, List, [], ◌∷◌, ℕ, zero, suc, ◌+◌, ◌≤◌, eqb, take, drop, length, get_or}
use Rattle.std.specs.List.{fold, list_any}
use Rattle.std.proofs.Common.{eqb-true, sym, ◌∙◌, arith, length-drop}
use Rattle.std.proofs.Math.Bool.{or-false}
use Rattle.std.proofs.lemmas.List.{get_or-drop}
use Rattle.tiles.specs.Below.{any, tabulate}

-- two lists are equal where six elements and the rest are
module _ {a b c d e f a' b' c' d' e' f' : Bool} {l l' : List Bool} where
  pub six : a ≡ a' → b ≡ b' → c ≡ c' → d ≡ d' → e ≡ e' → f ≡ f' → l ≡ l' →
      a ∷ b ∷ c ∷ d ∷ e ∷ f ∷ l ≡ a' ∷ b' ∷ c' ∷ d' ∷ e' ∷ f' ∷ l'
  six p q r s t u v = rw (p, q, r, s, t, u, v)

-- a number is not both i and j
pub not_both : (c : Bool) (n i j : ℕ) → eqb i j ≡ false → (c && eqb n i) && (c && eqb n j) ≡ false
not_both false n i j d = refl
not_both true n i j d = apart (eqb n i) refl
  where
    apart : (b : Bool) → eqb n i ≡ b → b && eqb n j ≡ false
    apart true e = rw (eqb-true n i e) d
    apart false e = refl

-- ---- some test of a list holds

fold_some : (found : Bool) (l : List Bool) → fold (λ a b. a || b) found l ≡ (found || list_any (λ b. b) l)
fold_some found [] = sym (or-false found)
fold_some true (b ∷ l) = fold_some true l
fold_some false (b ∷ l) = fold_some b l

pub some_by_fold : (l : List Bool) → fold (λ a b. a || b) false l ≡ list_any (λ b. b) l
some_by_fold l = fold_some false l

or_assoc : (a b c : Bool) → (a || (b || c)) ≡ ((a || b) || c)
or_assoc true b c = refl
or_assoc false b c = refl

-- the first is one of them
first_of : (n : ℕ) (p : ℕ → Bool) → (p 0 || any n (λ k. p (suc k))) ≡ any (suc n) p
first_of zero p = or-false (p 0)
first_of (suc n) p = or_assoc (p 0) (any n (λ k. p (suc k))) (p (suc n)) ∙ rw (first_of n p)

-- some test of the list holds: by place
pub some_at : (l : List Bool) (n : ℕ) → length l ≡ n → list_any (λ b. b) l ≡ any n (λ k. get_or l k false)
some_at [] zero e = refl
some_at [] (suc n) e = absurd (omega (arith, e))
some_at (b ∷ l) zero e = absurd (omega (arith, e))
some_at (b ∷ l) (suc n) e = rw (some_at l n (omega (arith, e))) (first_of n (λ k. get_or (b ∷ l) k false))

next_place : (n i : ℕ) (f : ℕ → Bool) → tabulate n (suc i) f ≡ tabulate n i (λ k. f (suc k))
next_place zero i f = refl
next_place (suc n) i f = rw (next_place n (suc i) f)

-- the first n by place
first_at : (n : ℕ) (l : List Bool) → n ≤ length l → take n l ≡ tabulate n 0 (λ k. get_or l k false)
first_at zero l h = refl
first_at (suc n) [] h = absurd (omega (arith, h))
first_at (suc n) (b ∷ l) h = rw (first_at n l (omega (arith, h)), next_place n 0 (λ k. get_or (b ∷ l) k false))

-- n from the place i on, by place
pub from_at : (i n : ℕ) (l : List Bool) → i + n ≤ length l → take n (drop i l) ≡ tabulate n 0 (λ k. get_or l (i + k) false)
from_at i n l h = first_at n (drop i l) (omega (arith, length-drop i l)) ∙ simp get_or-drop
