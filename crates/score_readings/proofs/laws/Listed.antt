-- Places in a list: where a member stands, that a list in order has each member once, and the last of those up to the first with a mark.
use Rattle.std.specs.Prelude.{Bool, ◌≡◌, ltb, get_or}
use Rattle.std.proofs.Math.Bool.{true, false, cond}
use mathlib.Core.List.{List, [], ◌∷◌, Memᴰ as Member}
use Rattle.std.proofs.Math.Path.{refl}
use Rattle.std.proofs.Common.{sym, subst, ltb-true, ltb-false}
use Prim.Native.Nat.{ℕ, zero, suc, ◌-◌, ◌≤◌, ◌<◌}
use native.Mathlib.Omega.{arith}
use Rattle.std.proofs.Math.ListN.{length}
use Rattle.reading.specs.declared.Reading.{Reading}
use Rattle.reading.specs.Order.{Before, key_of}
use Rattle.reading.specs.All.{Pairwise, ended, first}
use Rattle.reading.proofs.laws.Lists.{each_member}
use Rattle.reading.proofs.laws.Readings.{lex_irreflexive}
use Rattle.score_best.specs.Best.{up_to}
use Rattle.score_readings.proofs.laws.Found.{member_at}

neither : (i j : ℕ) → (i < j → ⊥) → (j < i → ⊥) → i ≡ j
neither i j a b = go (ltb i j) (ltb j i) refl refl
  where
    go : (x y : Bool) → ltb i j ≡ x → ltb j i ≡ y → i ≡ j
    go true y p q = absurd (a (ltb-true i j p))
    go false true p q = absurd (b (ltb-true j i q))
    go false false p q = omega (arith, ltb-false i j p, ltb-false j i q)

module _ (d : Reading) where
  -- a member stands at a place
  pub place_of : {r : Reading} {rs : List Reading} → Member r rs → (i : ℕ) × (i < length rs) × (get_or rs i d ≡ r)
  place_of (Member.head e) = (0, omega arith, sym e)
  place_of (Member.tail m) = let y = place_of m in (suc y.0, omega (arith, y.1), y.2)

  -- in a list in order the earlier one comes before the later
  in_order_lem : (rs : List Reading) → Pairwise Before rs → (i j : ℕ) → i < j → j < length rs → Before (get_or rs i d) (get_or rs j d)
  in_order_lem [] ended i j l k = absurd (omega arith)
  in_order_lem (r ∷ rs) (first e p) i zero l k = absurd (omega arith)
  in_order_lem (r ∷ rs) (first e p) zero (suc j) l k = each_member e (member_at d rs j (omega arith))
  in_order_lem (r ∷ rs) (first e p) (suc i) (suc j) l k = in_order_lem rs p i j (omega arith) (omega arith)

  not_before : (a b : Reading) → a ≡ b → Before a b → ⊥
  not_before a b e h = lex_irreflexive (key_of b) (subst (λ (z : Reading). Before z b) e h)

  -- so that each stands in it once
  pub one_place : (rs : List Reading) → Pairwise Before rs → (i j : ℕ) → i < length rs → j < length rs → get_or rs i d ≡ get_or rs j d → i ≡ j
  one_place rs p i j a b e =
      neither i j (λ l. not_before (get_or rs i d) (get_or rs j d) e (in_order_lem rs p i j l b))
      (λ l. not_before (get_or rs j d) (get_or rs i d) (sym e) (in_order_lem rs p j i l a))

  -- where not all are reached, the last that is reached has the mark
  pub last_marked : (p : Reading → Bool) (rs : List Reading) → length (up_to p rs) < length rs
      → (1 ≤ length (up_to p rs)) × (p (get_or rs (length (up_to p rs) - 1) d) ≡ true)
  unfolding up_to
  last_marked p [] l = absurd (omega arith)
  last_marked p (r ∷ rs) l = go (p r) refl l (last_marked p rs)
    where
      go : (c : Bool) → p r ≡ c → length (r ∷ cond c [] (up_to p rs)) < length (r ∷ rs)
          → (length (up_to p rs) < length rs → (1 ≤ length (up_to p rs)) × (p (get_or rs (length (up_to p rs) - 1) d) ≡ true))
          → (1 ≤ length (r ∷ cond c [] (up_to p rs))) × (p (get_or (r ∷ rs) (length (r ∷ cond c [] (up_to p rs)) - 1) d) ≡ true)
      go true e k i = (omega arith, e)
      go false e k i =
          let y = i (omega arith) in
          let n = length (up_to p rs) in
          let z : suc n - 1 ≡ suc (n - 1) = omega (arith, y.0) in
          (omega arith, rw z y.1)
