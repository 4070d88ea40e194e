-- What the code finds in a claim's bits, case by case.
use Rattle.std.specs.Prelude.{ℕ, zero, suc, ◌+◌, ◌*◌, ◌-◌, ◌≤◌, ◌≡◌, Bool, true, false, ◌&&◌, ◌||◌, not, cond, ltb, eqb, length, take, replicate, None, Some}
use Rattle.std.proofs.Math.Path.{refl, ap}
use Rattle.std.proofs.Common.{◌∙◌, take_at, take_all}
use mathlib.Core.List.{List, [], ◌∷◌, ◌++◌}
use native.Mathlib.Omega.{arith}
use borrow.Author.Tests.{ne_eqb, eq-eqb, le-ltb, ltb-false, eqb-true, eqb-false, not-false}
use Rattle.std.proofs.Math.ListN.{drop, length-drop}
use Rattle.std.proofs.Math.Seq.{drop-drop}
use Rattle.bits.specs.Bits.{val, unpack, width_of}
use Rattle.bits.proofs.laws.Pack.{unpack_append, sum_append, sum_replicate}
use Rattle.reading.specs.declared.Reading.{Reading}
use Rattle.reading.specs.Reading.{Ascends, of_shape}
use Rattle.tiles.proofs.laws.Below.{or_both}
use Rattle.claim.specs.search.Claimed.{field, shape_in, pair_in, place_in, codes_in, gain_of, padding_in, length_of, pad_of, ascends, reading_in, faulty_regular}
use Rattle.claim.specs.search.Claimed.{gain_at, faulty_in, named_in, claimed_in}
use Rattle.claim.proofs.laws.Bits.{length_codes, ascends_true, ascends_of}
pub use Rattle.claim.specs.search.Claimed.{widths}

-- a claim's fields take its bytes; none has under 3 bytes or over 7
pub filled : (m : ℕ) → m ≤ 4 → (28 + 7 * (4 - m) + pad_of 0 m ≡ 8 * length_of 0 m) × (pad_of 0 m ≤ 7) × (3 ≤ length_of 0 m) × (length_of 0 m ≤ 7)
filled zero h = (refl, omega arith, omega arith, omega arith)
filled (suc zero) h = (refl, omega arith, omega arith, omega arith)
filled (suc (suc zero)) h = (refl, omega arith, omega arith, omega arith)
filled (suc (suc (suc zero))) h = (refl, omega arith, omega arith, omega arith)
filled (suc (suc (suc (suc zero)))) h = (refl, omega arith, omega arith, omega arith)
filled (suc (suc (suc (suc (suc m))))) h = absurd (omega arith)

pub sizes : (shape m : ℕ) → m ≤ 4 → (3 ≤ length_of shape m) × (length_of shape m ≤ 7)
sizes shape m h = go (eqb shape 0)
  where
    go : (z : Bool) → (3 ≤ cond z (length_of 0 m) 3) × (cond z (length_of 0 m) 3 ≤ 7)
    go true = let f = filled m h in (f.2, f.3)
    go false = (omega arith, omega arith)

module _ (m n : ℕ) (b : List ℕ) where
  pub claimed_faulty : faulty_in m n b ≡ true → None ≡ claimed_in m n b
  unfolding claimed_in
  claimed_faulty e = rw e

  pub claimed_sound : faulty_in m n b ≡ false → Some (record { reading = reading_in m b; gain = record { 0 = gain_of m b } }) ≡ claimed_in m n b
  unfolding claimed_in
  claimed_sound e = rw e

  -- another length
  other_length : (n ≡ length_of (shape_in b) m → ⊥) → None ≡ claimed_in m n b
  unfolding faulty_in
  other_length h = claimed_faulty (rw (ne_eqb n (length_of (shape_in b) m) h))

  -- so many bytes no claim has
  pub far_length : m ≤ 4 → (3 ≤ n → n ≤ 7 → ⊥) → None ≡ claimed_in m n b
  far_length h f = other_length (λ e. let z = sizes (shape_in b) m h in f (omega arith) (omega arith))

  module _ (shape : ℕ) (s : shape ≡ shape_in b) where
    -- another length or shape
    pub far_shape : not (eqb n (length_of shape m)) || eqb shape 3 ≡ true → None ≡ claimed_in m n b
    unfolding faulty_in
    far_shape t = claimed_faulty (rw (← s, t))

    module _ (t : not (eqb n (length_of shape m)) || eqb shape 3 ≡ false) where
      pub size_is : n ≡ length_of shape m
      size_is = eqb-true n (length_of shape m) (not-false _ (or_both (not (eqb n (length_of shape m))) (eqb shape 3) t).0)

      -- a faulty regular claim
      pub faulty_reading : eqb shape 0 && faulty_regular m b ≡ true → None ≡ claimed_in m n b
      unfolding faulty_in
      faulty_reading f = claimed_faulty (rw (← s, t, f))

      module _ (f : eqb shape 0 && faulty_regular m b ≡ false) (pad : ℕ) (p : pad ≡ padding_in m b) where
        padded : faulty_in m n b ≡ ltb 0 pad
        unfolding faulty_in
        padded = rw (← s, t, f, p)

        pub faulty_padding : ltb 0 pad ≡ true → None ≡ claimed_in m n b
        faulty_padding e = claimed_faulty (padded ∙ e)

        pub named : (r : Reading) (gain : ℕ) → r ≡ reading_in m b → gain ≡ gain_of m b → ltb 0 pad ≡ false
            → Some (record { reading = r; gain = record { 0 = gain } }) ≡ claimed_in m n b
        named r gain er eg e =
            ap (λ (x : Reading). Some (record { reading = x; gain = record { 0 = gain } })) er
            ∙ ap (λ (k : ℕ). Some (record { reading = reading_in m b; gain = record { 0 = k } })) eg
            ∙ claimed_sound (padded ∙ e)

-- ---- its parts

module _ (m : ℕ) (b : List ℕ) (shape : ℕ) (s : shape ≡ shape_in b) where
  pub gain_is : (gain at : ℕ) → at ≡ gain_at shape m → gain ≡ field at 17 b → gain ≡ gain_of m b
  unfolding gain_of
  gain_is gain at ea eg = rw (← s, ← ea) eg

  -- the padding is what is left of the bytes
  pub padding_is : (pad at n : ℕ) → m ≤ 4 → at ≡ gain_at shape m → n ≡ length_of shape m → pad ≡ field (at + 17) (8 * n - (at + 17)) b → pad ≡ padding_in m b
  unfolding padding_in
  padding_is pad at n h ea en ep = rw (← s, ← ea) (ep ∙ ap (λ (k : ℕ). field (at + 17) k b) (left at n h ea en))
    where
      left : (at n : ℕ) → m ≤ 4 → at ≡ gain_at shape m → n ≡ length_of shape m → 8 * n - (at + 17) ≡ pad_of shape m
      left at n h ea en = go (eqb shape 0) refl
        where
          go : (z : Bool) → eqb shape 0 ≡ z → 8 * n - (at + 17) ≡ pad_of shape m
          go true z = let e = eqb-true shape 0 z in rw (ea, en, e) (omega (arith, filled m h))
          go false z = rw (ea, en, z)

  -- the reading of another shape
  pub other_reading : (r : Reading) → (shape ≡ 0 → ⊥) → r ≡ of_shape shape → Some r ≡ named_in (eqb shape 0 && faulty_regular m b) (reading_in m b)
  unfolding reading_in
  other_reading r z e = rw (← s, ne_eqb shape 0 z, e)

  -- and the regular one, by its tests
  module _ (z : shape ≡ 0) (pair place : ℕ) (groups : List ℕ) (a : Bool) (e1 : pair ≡ field 2 6 b) (e2 : groups ≡ codes_in m b ++ replicate m 68)
      (e3 : place ≡ field (8 + 7 * (4 - m)) 3 b) (e6 : a ≡ ascends 0 (take (4 - m) groups)) where
    a_is : a ≡ ascends 0 (codes_in m b)
    a_is = e6 ∙ ap (λ (l : List ℕ). ascends 0 l) (ap (λ (l : List ℕ). take (4 - m) l) e2 ∙ take_at (codes_in m b) (replicate m 68) (4 - m) (length_codes m b))

    test : eqb shape 0 && faulty_regular m b ≡ ltb 33 pair || not a || ltb (4 - m) place
    unfolding faulty_regular
    test = rw (eq-eqb shape 0 z, e1, a_is, e3)

    pub regular_faulty : ltb 33 pair || not a || ltb (4 - m) place ≡ true → None ≡ named_in (eqb shape 0 && faulty_regular m b) (reading_in m b)
    regular_faulty t = rw (test ∙ t)

    pub regular_named : ltb 33 pair || not a || ltb (4 - m) place ≡ false
        → Some (record { shape = shape; pair = pair; groups = groups; place = place }) ≡ named_in (eqb shape 0 && faulty_regular m b) (reading_in m b)
    unfolding reading_in
    regular_named t = rw (test ∙ t, ← s, z, e1, e2, e3)

-- ---- the fields in their order

pub sum_widths : (m : ℕ) → width_of (widths m) ≡ 28 + 7 * (4 - m)
sum_widths m = omega (arith, sum_append (replicate (4 - m) 7) (3 ∷ 17 ∷ []), sum_replicate (4 - m) 7)

module _ (m : ℕ) (b : List ℕ) where
  after_pair : (n : ℕ) → unpack (replicate n 7 ++ (3 ∷ 17 ∷ [])) (drop 8 b)
      ≡ unpack (replicate n 7) (drop 8 b) ++ (field (8 + 7 * n) 3 b ∷ field (11 + 7 * n) 17 b ∷ [])
  after_pair n =
      let k1 : 8 + 7 * n + 3 ≡ 11 + 7 * n = omega arith in
      let d0 : drop (width_of (replicate n 7)) (drop 8 b) ≡ drop (8 + 7 * n) b = rw (sum_replicate n 7) (drop-drop (7 * n) 8 b) in
      let d1 : drop 3 (drop (8 + 7 * n) b) ≡ drop (11 + 7 * n) b = drop-drop 3 (8 + 7 * n) b ∙ ap (λ (k : ℕ). drop k b) k1 in
      unpack_append (replicate n 7) (3 ∷ 17 ∷ []) (drop 8 b)
      ∙ ap (λ (l : List ℕ). unpack (replicate n 7) (drop 8 b) ++ unpack (3 ∷ 17 ∷ []) l) d0
      ∙ ap (λ (l : List ℕ). unpack (replicate n 7) (drop 8 b) ++ (field (8 + 7 * n) 3 b ∷ unpack (17 ∷ []) l)) d1

  pub laid_0 : shape_in b ≡ 0 → unpack (widths m) b ≡ shape_in b ∷ pair_in b ∷ (codes_in m b ++ (place_in m b ∷ gain_of m b ∷ []))
  unfolding codes_in gain_of
  laid_0 z =
      let e : drop 6 (drop 2 b) ≡ drop 8 b = drop-drop 6 2 b in
      ap (λ (l : List ℕ). shape_in b ∷ pair_in b ∷ unpack (replicate (4 - m) 7 ++ (3 ∷ 17 ∷ [])) l) e
      ∙ ap (λ (l : List ℕ). shape_in b ∷ pair_in b ∷ l) (after_pair (4 - m))
      ∙ rw z

  pub laid_1 : (shape_in b ≡ 0 → ⊥) → unpack (2 ∷ 17 ∷ []) b ≡ shape_in b ∷ gain_of m b ∷ []
  unfolding gain_of
  laid_1 z = rw (ne_eqb (shape_in b) 0 z)

  -- the padding is all that is left
  pub padding_0 : shape_in b ≡ 0 → length b ≤ 28 + 7 * (4 - m) + pad_of 0 m → padding_in m b ≡ val 0 (drop (width_of (widths m)) b)
  unfolding padding_in
  padding_0 z l =
      let k : 11 + 7 * (4 - m) + 17 ≡ width_of (widths m) = omega (arith, sum_widths m) in
      rw (z, k) (ap (val 0) (take_all (pad_of 0 m) (drop (width_of (widths m)) b) (omega (arith, l, length-drop (width_of (widths m)) b, sum_widths m))))

  pub padding_1 : (shape_in b ≡ 0 → ⊥) → length b ≡ 24 → padding_in m b ≡ val 0 (drop 19 b)
  unfolding padding_in
  padding_1 z l = rw (ne_eqb (shape_in b) 0 z) (ap (val 0) (take_all 5 (drop 19 b) (omega (arith, l, length-drop 19 b))))

-- ---- a claim without faults

pub record IsFaultless (m n : ℕ) (b : List ℕ) : Type 0 where
  pub size : n ≡ length_of (shape_in b) m
  pub shape : shape_in b ≡ 3 → ⊥
  pub regular : shape_in b ≡ 0 → (pair_in b ≤ 33) × Ascends 0 (codes_in m b) × (place_in m b ≤ 4 - m)
  pub padding : padding_in m b ≡ 0

faulty_parts : (m n : ℕ) (b : List ℕ) → faulty_in m n b ≡ false → (eqb n (length_of (shape_in b) m) ≡ true) × (eqb (shape_in b) 3 ≡ false)
    × (eqb (shape_in b) 0 && faulty_regular m b ≡ false) × (ltb 0 (padding_in m b) ≡ false)
unfolding faulty_in
faulty_parts m n b w =
    let x1 = not (eqb n (length_of (shape_in b) m)) in
    let p = or_both (x1 || eqb (shape_in b) 3 || (eqb (shape_in b) 0 && faulty_regular m b)) (ltb 0 (padding_in m b)) w in
    let q = or_both (x1 || eqb (shape_in b) 3) (eqb (shape_in b) 0 && faulty_regular m b) p.0 in
    let o = or_both x1 (eqb (shape_in b) 3) q.0 in
    (not-false (eqb n (length_of (shape_in b) m)) o.0, o.1, q.1, p.1)

regular_parts : (m : ℕ) (b : List ℕ) → faulty_regular m b ≡ false → (pair_in b ≤ 33) × Ascends 0 (codes_in m b) × (place_in m b ≤ 4 - m)
unfolding faulty_regular
regular_parts m b v =
    let p = or_both (ltb 33 (pair_in b) || not (ascends 0 (codes_in m b))) (ltb (4 - m) (place_in m b)) v in
    let q = or_both (ltb 33 (pair_in b)) (not (ascends 0 (codes_in m b))) p.0 in
    (ltb-false 33 (pair_in b) q.0, ascends_true 0 (codes_in m b) (not-false (ascends 0 (codes_in m b)) q.1), ltb-false (4 - m) (place_in m b) p.1)

pub faultless_of : (m n : ℕ) (b : List ℕ) → faulty_in m n b ≡ false → IsFaultless m n b
faultless_of m n b w =
    let p = faulty_parts m n b w in
    record {
      size = eqb-true n (length_of (shape_in b) m) p.0;
      shape = eqb-false (shape_in b) 3 p.1;
      regular = λ z. regular_parts m b (rw z at p.2);
      padding = let k = ltb-false 0 (padding_in m b) p.3 in omega arith;
    }

pub of_faultless : (m n : ℕ) (b : List ℕ) → IsFaultless m n b → faulty_in m n b ≡ false
unfolding faulty_in faulty_regular
of_faultless m n b y = go (eqb (shape_in b) 0) refl
  where
    go : (z : Bool) → eqb (shape_in b) 0 ≡ z → not (eqb n (length_of (shape_in b) m)) || eqb (shape_in b) 3 ||
        (eqb (shape_in b) 0 && (ltb 33 (pair_in b) || not (ascends 0 (codes_in m b)) || ltb (4 - m) (place_in m b))) || ltb 0 (padding_in m b) ≡ false
    go false e = rw (eq-eqb n (length_of (shape_in b) m) y.size, ne_eqb (shape_in b) 3 y.shape, e, y.padding)
    go true e =
        let r = y.regular (eqb-true (shape_in b) 0 e) in
        rw (
          eq-eqb n (length_of (shape_in b) m) y.size,
          ne_eqb (shape_in b) 3 y.shape,
          e,
          y.padding,
          le-ltb 33 (pair_in b) r.0,
          ascends_of 0 (codes_in m b) r.1,
          le-ltb (4 - m) (place_in m b) r.2,
        )
