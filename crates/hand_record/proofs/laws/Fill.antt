-- Lists filled with zeros, and the unused places of a hand.
use Rattle.std.specs.Prelude.{ℕ, zero, suc, ◌+◌, ◌*◌, ◌-◌, ◌<◌, ◌≤◌, ◌≡◌, refl, Bool, true, false, ◌||◌, not, List, ltb, eqb}
use Rattle.std.proofs.Common.{sym, ◌∙◌, arith, ltb-true, ltb-false, le-ltb, eqb-true, eq-eqb, length-take-le, take_at, get_or-take, ext_get_or, get_or-append-add}
use Rattle.std.proofs.lemmas.Bool.{not-false}
use lib.ListN.{length, get_or, take, replicate}
use Rattle.tiles.specs.Below.{all, all_below}
use Rattle.tiles.proofs.laws.Below.{or_both, every_at, every_of}
use Rattle.bits.specs.Bits.{fill}
use Rattle.bits.proofs.laws.Pack.{length_fill}
use Rattle.hand.specs.declared.Held.{Held}
use Rattle.hand.specs.Held.{unused_not_zero}

pub take_fill : (n m : ℕ) (l : List ℕ) → length l ≡ m → take m (fill n l) ≡ l
take_fill n m l e = take_at l (replicate (n - length l) 0) m e

get_d_zeros : (n i : ℕ) → ◌≡◌ {A = ℕ} (get_or (replicate n 0) i 0) 0
get_d_zeros zero i = refl
get_d_zeros (suc n) zero = refl
get_d_zeros (suc n) (suc i) = get_d_zeros n i

-- past what it holds a filled list is zero
pub fill_past : (n : ℕ) (l : List ℕ) (i : ℕ) → length l ≤ i → get_or (fill n l) i 0 ≡ 0
fill_past n l i h =
    let e : i ≡ length l + (i - length l) = omega arith in
    rw e (get_or-append-add l (replicate (n - length l) 0) (i - length l) 0 ∙ get_d_zeros (n - length l) (i - length l))

-- a list that is zero from m on is its first m, filled
pub fill_take : (n m : ℕ) (l : List ℕ) → length l ≡ n → m ≤ n → ((i : ℕ) → i < n → m ≤ i → get_or l i 0 ≡ 0) → fill n (take m l) ≡ l
fill_take n m l e h z =
    let lt : length (take m l) ≡ m = length-take-le m l (omega arith) in
    let lf : length (fill n (take m l)) ≡ n = length_fill n (take m l) (omega arith) in
    ext_get_or 0 (fill n (take m l)) l (lf ∙ sym e) (λ i g. go i (omega arith) lt (ltb i m) refl)
  where
    go : (i : ℕ) → i < n → length (take m l) ≡ m → (b : Bool) → ltb i m ≡ b → get_or (fill n (take m l)) i 0 ≡ get_or l i 0
    go i g lt true q =
        lib.ListN.get_or-append (take m l) (replicate (n - length (take m l)) 0) 0 i (omega (arith, ltb-true i m q)) ∙ get_or-take m l i 0 (ltb-true i m q)
    go i g lt false q = fill_past n (take m l) i (omega (arith, ltb-false i m q)) ∙ sym (z i g (ltb-false i m q))

-- ---- unused places

used_or_zero : (l : List ℕ) (m i : ℕ) → (m ≤ i → get_or l i 0 ≡ 0) → ltb i m || eqb (get_or l i 0) 0 ≡ true
used_or_zero l m i h = go (ltb i m) refl
  where
    go : (b : Bool) → ltb i m ≡ b → b || eqb (get_or l i 0) 0 ≡ true
    go true e = refl
    go false e = eq-eqb (get_or l i 0) 0 (h (ltb-false i m e))

zero_past : (l : List ℕ) (m i : ℕ) → ltb i m || eqb (get_or l i 0) 0 ≡ true → m ≤ i → get_or l i 0 ≡ 0
zero_past l m i e h = eqb-true (get_or l i 0) 0 (rw (le-ltb i m h) at e)

pub unused_of : (x : Held) → ((i : ℕ) → x.m ≤ i → get_or x.melds i 0 ≡ 0) → ((i : ℕ) → 13 - 3 * x.m ≤ i → get_or x.concealed i 0 ≡ 0)
    → unused_not_zero x ≡ false
unfolding unused_not_zero all_below
unused_of x zm zt =
    let em = every_of (λ i. ltb i x.m || eqb (get_or x.melds i 0) 0) 4 (λ i g. used_or_zero x.melds x.m i (zm i)) in
    let et = every_of (λ i. ltb i (13 - 3 * x.m) || eqb (get_or x.concealed i 0) 0) 13 (λ i g. used_or_zero x.concealed (13 - 3 * x.m) i (zt i)) in
    nots _ _ em et
  where
    nots : (a b : Bool) → a ≡ true → b ≡ true → not a || not b ≡ false
    nots a b p q = rw (p, q)

pub zeros_of : (x : Held) → unused_not_zero x ≡ false → ((i : ℕ) → i < 4 → x.m ≤ i → get_or x.melds i 0 ≡ 0)
    × ((i : ℕ) → i < 13 → 13 - 3 * x.m ≤ i → get_or x.concealed i 0 ≡ 0)
unfolding unused_not_zero all_below
zeros_of x e =
    let p = or_both (not (all 4 (λ i. ltb i x.m || eqb (get_or x.melds i 0) 0)))
    (not (all 13 (λ i. ltb i (13 - 3 * x.m) || eqb (get_or x.concealed i 0) 0))) e in (
      λ i g l. zero_past x.melds x.m i (every_at (λ j. ltb j x.m || eqb (get_or x.melds j 0) 0) 4 i (not-false _ p.0) g) l,
      λ i g l. zero_past x.concealed (13 - 3 * x.m) i
          (every_at (λ j. ltb j (13 - 3 * x.m) || eqb (get_or x.concealed j 0) 0) 13 i (not-false _ p.1) g) l,
    )
