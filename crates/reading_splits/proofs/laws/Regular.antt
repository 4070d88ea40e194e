-- A tally has a regular reading that a kind of it wins exactly where it splits into a pair and groups.
use Rattle.std.specs.Prelude.{◌≡◌, refl, Bool, true, false, ◌↔◌, List, [], ◌∷◌, ◌++◌, ℕ, suc, ◌+◌, ◌-◌, ◌≤◌, ◌<◌, leb, eqb, length, get_or, replicate}
use Rattle.std.proofs.Common.{sym, arith, leb-true, leb-false, le-leb, eqb-true, eq-eqb}
use Rattle.std.proofs.lemmas.Bool.{eqb-false}
use Rattle.tiles.specs.Groups.{is_group, at_kind, uses}
use Rattle.reading.specs.declared.Reading.{Reading}
use Rattle.reading.specs.Reading.{used_by, Ascends, holds, IsRegular}
use Rattle.reading.specs.All.{Each, none, also}
use Rattle.reading.specs.search.Readings.{regular_of}
use Rattle.reading.proofs.laws.Groups.{at_same, at_other, get_d_pos}
use Rattle.reading_splits.specs.Splits.{Splits}
use Rattle.reading_splits.proofs.laws.SplitsInto.{none_or}

-- ---- groups in order
ascends_each : (lo : ℕ) (gs : List ℕ) → Ascends lo gs → Each (λ g. is_group g ≡ true) gs
ascends_each lo [] o = none
ascends_each lo (g ∷ gs) o = also o.1 (ascends_each g gs o.2)

-- groups in order from lo on with the tiles that f counts
record Ordered (lo n : ℕ) (f : ℕ → ℕ) : Type 0 where
  codes : List ℕ
  size : length codes ≡ n
  order : Ascends lo codes
  tiles : (k : ℕ) → used_by codes k ≡ f k

put_in : (lo x : ℕ) (l : List ℕ) → lo ≤ x → is_group x ≡ true → Ascends lo l → Ordered lo (suc (length l)) (λ k. uses x k + used_by l k)
unfolding used_by
put_in lo x [] h g o = record { codes = x ∷ []; size = refl; order = (h, g, tt); tiles = λ k. refl }
put_in lo x (y ∷ l) h g o = go (λ q. put_in y x l q g o.2) (leb x y) refl
  where
    go : (y ≤ x → Ordered y (suc (length l)) (λ k. uses x k + used_by l k)) → (b : Bool) → leb x y ≡ b
        → Ordered lo (suc (suc (length l))) (λ k. uses x k + (uses y k + used_by l k))
    go f true e = record { codes = x ∷ y ∷ l; size = refl; order = (h, g, (leb-true x y e, o.1, o.2)); tiles = λ k. refl }
    go f false e =
        let r = f (omega (arith, leb-false x y e)) in
        record { codes = y ∷ r.codes; size = omega (arith, r.size); order = (o.0, o.1, r.order); tiles = λ k. omega (arith, r.tiles k) }

in_order_lem : (gs : List ℕ) → Each (λ g. is_group g ≡ true) gs → Ordered 0 (length gs) (used_by gs)
unfolding used_by
in_order_lem [] none = record { codes = []; size = refl; order = tt; tiles = λ k. refl }
in_order_lem (x ∷ gs) (also g e) =
    let s = in_order_lem gs e in
    let r = put_in 0 x s.codes (omega arith) g s.order in
    record { codes = r.codes; size = omega (arith, r.size, s.size); order = r.order; tiles = λ k. omega (arith, r.tiles k, s.tiles k) }

-- ---- a place that holds a kind of the tiles
group_with : (gs : List ℕ) (k m : ℕ) → 0 < used_by gs k → (i : ℕ) × (i < length gs) × (0 < uses (get_or (gs ++ replicate m 68) i 68) k)
unfolding used_by
group_with [] k m h = absurd (omega arith)
group_with (g ∷ gs) k m h =
    none_or (uses g k)
    (λ z. let r = group_with gs k m (omega arith) in (suc r.0, omega (arith, r.1), r.2))
    (λ p. (0, omega arith, p))

place_with : (pair : ℕ) (gs : List ℕ) (k m : ℕ) → 0 < at_kind pair 2 k + used_by gs k → (p : ℕ) × (p ≤ length gs) × (holds pair (gs ++ replicate m 68) p k ≡ true)
unfolding holds
place_with pair gs k m h =
    none_or (used_by gs k)
    (λ z. go z (eqb pair k) refl)
    (λ p. let r = group_with gs k m p in (suc r.0, omega (arith, r.1), le-leb 1 _ r.2))
  where
    go : used_by gs k ≡ 0 → (b : Bool) → eqb pair k ≡ b → (p : ℕ) × (p ≤ length gs) × (holds pair (gs ++ replicate m 68) p k ≡ true)
    go z true e = (0, omega arith, eq-eqb k pair (sym (eqb-true pair k e)))
    go z false e = absurd (omega (arith, at_other pair 2 k (eqb-false pair k e)))

-- ---- regular readings and splittings
pub regular_splits : (t : List ℕ) (m k : ℕ) (r : Reading) → IsRegular t m k r → Splits (4 - m) (λ j. get_or t j 0)
regular_splits t m k r g = record { pair = r.pair; groups = g.codes; number = g.size; codes = ascends_each 0 g.codes g.order; tiles = g.tiles }

pub splits_regular : (t : List ℕ) (m k : ℕ) → length t ≡ 34 → 1 ≤ get_or t k 0 → Splits (4 - m) (λ j. get_or t j 0) → (r : Reading) × IsRegular t m k r
splits_regular t m k l h s =
    let o = in_order_lem s.groups s.codes in
    let u : (j : ℕ) → get_or t j 0 ≡ at_kind s.pair 2 j + used_by o.codes j = λ j. omega (arith, s.tiles j, o.tiles j) in
    let p = place_with s.pair o.codes k m (omega (arith, u k)) in (
      regular_of s.pair (o.codes ++ replicate m 68) p.0,
      record {
        shape = refl;
        codes = o.codes;
        size = omega (arith, o.size, s.number);
        groups = refl;
        order = o.order;
        pair = omega (arith, get_d_pos t s.pair (omega (arith, u s.pair, at_same s.pair 2)));
        tiles = u;
        place = omega (arith, p.1, o.size, s.number);
        holding = p.2;
      },
    )

-- "a pair and 4 − m groups": with a tile of the winning kind there is a regular reading of t exactly where it splits
pub regular_exactly : (t : List ℕ) (m k : ℕ) → length t ≡ 34 → 1 ≤ get_or t k 0 → ((r : Reading) × IsRegular t m k r) ↔ Splits (4 - m) (λ j. get_or t j 0)
regular_exactly t m k l h = (λ r. regular_splits t m k r.0 r.1, splits_regular t m k l h)
