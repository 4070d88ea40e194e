-- A claim without faults names what the code reads in it, a faulty one nothing; and each reading with a gain of 17 bits is named by a claim.
use Rattle.std.specs.Prelude.{ℕ, zero, suc, ◌+◌, ◌*◌, ◌-◌, ◌/◌, ◌≤◌, ◌<◌, ◌^◌, ◌≡◌, refl, false, ◌⊎◌, take, drop, replicate}
use Rattle.std.proofs.Math.Path.{sym, ap, subst}
use Rattle.std.proofs.Common.{◌∙◌, inl, inr, arith, ne_eqb, length-append, length-drop, length-take-le, take_all}
use mathlib.Core.List.{List, [], ◌∷◌, ◌++◌}
use Rattle.std.proofs.Math.Logic.{⊎_elim}
use Rattle.std.proofs.Math.ListN.{length, get_or}
use Rattle.std.proofs.lemmas.List.{length-replicate}
use Rattle.bits.specs.Bits.{val, unpack, width_of, eights, bits_of, pack_bytes, EachBelow}
use Rattle.bits.proofs.laws.Pack.{FitIn, fit_cons, fit_append, fit_run, fit_all, fields_bytes, length_unpack, length_bits_of, sum_append, unpack_append}
use Rattle.bits.proofs.laws.Pack.{app_inj, below_cons, below_nil, below_pack, below_take, val_lt}
use Rattle.reading.specs.declared.Reading.{Reading}
use Rattle.reading.specs.Reading.{Ascends, of_shape, IsReading}
use Rattle.reading.specs.Reading as Readings
use Rattle.reading.proofs.laws.Groups.{group_in}
use Rattle.claim.specs.Claim.{HasFields, Names, regular, other}
use Rattle.claim.specs.search.Claimed.{shape_in, pair_in, codes_in, place_in, gain_of, length_of, pad_of, reading_in, faulty_in}
use Rattle.claim.specs.search.Verdict.{IsFormed, formed, without_groups}
use Rattle.claim.proofs.laws.Bits.{length_codes}
use Rattle.claim.proofs.laws.Claimed.{filled, sizes, widths, sum_widths, laid_0, laid_1, padding_0, padding_1, IsFaultless, faultless_of, of_faultless}

-- ---- what the code reads is named

module _ (m : ℕ) (s : List ℕ) (few : m ≤ 4) where
  abbrev b : List ℕ
  b = bits_of s

  bytes_0 : length s ≡ length_of 0 m → length s ≡ (width_of (widths m) + 7) / 8
  bytes_0 e = let f = filled m few in omega (arith, e, sum_widths m)

  names_0 : IsFaultless m (length s) b → shape_in b ≡ 0 → Names m s (reading_in m b) (gain_of m b)
  unfolding reading_in
  names_0 y z =
      let f = filled m few in
      let l : length s ≡ length_of 0 m = y.size ∙ ap (λ (k : ℕ). length_of k m) z in
      let p = y.regular z in
      let e : unpack (widths m) b ≡ 0 ∷ pair_in b ∷ (codes_in m b ++ (place_in m b ∷ gain_of m b ∷ [])) =
      laid_0 m b z ∙ ap (λ (k : ℕ). k ∷ pair_in b ∷ (codes_in m b ++ (place_in m b ∷ gain_of m b ∷ []))) z in
      rw z (regular (pair_in b) (place_in m b) (gain_of m b) (codes_in m b)
      (record { size = bytes_0 l; values = e; padding = sym (padding_0 m b z (omega (arith, l, length_bits_of s))) ∙ y.padding })
      p.0 p.1 p.2)

  names_1 : IsFaultless m (length s) b → (k : ℕ) → (k ≡ 1) ⊎ (k ≡ 2) → shape_in b ≡ k → Names m s (reading_in m b) (gain_of m b)
  unfolding reading_in
  names_1 y k o z =
      let n : shape_in b ≡ 0 → ⊥ = λ e. ⊎_elim (λ q. omega arith) (λ q. omega arith) o in
      let l : length s ≡ 3 = rw (ne_eqb (shape_in b) 0 n) at y.size in
      let e : unpack (2 ∷ 17 ∷ []) b ≡ k ∷ gain_of m b ∷ [] = laid_1 m b n ∙ ap (λ (x : ℕ). x ∷ gain_of m b ∷ []) z in
      let q : record { shape = k; pair = 34; groups = 68 ∷ 68 ∷ 68 ∷ 68 ∷ []; place = 0 } ≡ reading_in m b = rw (ne_eqb (shape_in b) 0 n, z) in
      subst (λ (r : Reading). Names m s r (gain_of m b)) q
      (other k (gain_of m b) (record { size = l; values = e; padding = sym (padding_1 m b n (omega (arith, l, length_bits_of s))) ∙ y.padding }) o)

  pub names_of : faulty_in m (length s) b ≡ false → Names m s (reading_in m b) (gain_of m b)
  names_of w =
      let y = faultless_of m (length s) b w in
      let l : 2 ≤ length b = omega (arith, y.size, sizes (shape_in b) m few, length_bits_of s) in
      let q = val_lt (take 2 b) (below_take 2 2 b (below_pack (eights (length s)) s)) in
      go (shape_in b) refl y (rw (length-take-le 2 b l) at q)
    where
      go : (k : ℕ) → shape_in b ≡ k → IsFaultless m (length s) b → shape_in b < 2 ^ 2 → Names m s (reading_in m b) (gain_of m b)
      go zero e y l = names_0 y e
      go (suc zero) e y l = names_1 y 1 (inl refl) e
      go (suc (suc zero)) e y l = names_1 y 2 (inr refl) e
      go (suc (suc (suc zero))) e y l = absurd (y.shape e)
      go (suc (suc (suc (suc k)))) e y l = absurd (omega arith)

  -- ---- and what is named is what it reads

  pub record Same (r : Reading) (g : ℕ) : Type 0 where
    pub sound : faulty_in m (length s) b ≡ false
    pub reading : reading_in m b ≡ r
    pub gain : gain_of m b ≡ g

  pub size_of : (pair place gain : ℕ) (codes : List ℕ) → unpack (widths m) b ≡ 0 ∷ pair ∷ (codes ++ (place ∷ gain ∷ [])) → length codes ≡ 4 - m
  size_of pair place gain codes e =
      let a : length (unpack (widths m) b) ≡ suc (suc (length (codes ++ (place ∷ gain ∷ [])))) = ap (λ (x : List ℕ). length x) e in
      omega (
        arith,
        a,
        length_unpack (widths m) b,
        length-append {A = ℕ} (replicate (4 - m) 7) (3 ∷ 17 ∷ []),
        length-replicate {A = ℕ} (4 - m) 7,
        length-append codes (place ∷ gain ∷ []),
      )

  module _ (pair place gain : ℕ) (codes : List ℕ) (f : HasFields s (widths m) (0 ∷ pair ∷ (codes ++ (place ∷ gain ∷ [])))) where
    shape_0 : shape_in b ≡ 0
    shape_0 = ap (λ (x : List ℕ). get_or x 0 0) f.values

    pair_0 : pair_in b ≡ pair
    pair_0 = ap (λ (x : List ℕ). get_or x 1 0) f.values

    ends : (codes_in m b ≡ codes) × (place_in m b ∷ gain_of m b ∷ [] ≡ place ∷ gain ∷ [])
    ends =
        app_inj (codes_in m b) codes (place_in m b ∷ gain_of m b ∷ []) (place ∷ gain ∷ [])
        (length_codes m b ∙ sym (size_of pair place gain codes f.values)) (ap (λ (x : List ℕ). drop 2 x) (sym (laid_0 m b shape_0) ∙ f.values))

    place_0 : place_in m b ≡ place
    place_0 = ap (λ (x : List ℕ). get_or x 0 0) ends.1

    same_0 : pair ≤ 33 → Ascends 0 codes → place ≤ 4 - m → Same (record { shape = 0; pair = pair; groups = codes ++ replicate m 68; place = place }) gain
    unfolding reading_in
    same_0 p o q =
        let l = filled m few in
        let n : length s ≡ length_of 0 m = omega (arith, f.size, sum_widths m) in
        record {
          sound = of_faultless m (length s) b (record {
            size = n ∙ ap (λ (k : ℕ). length_of k m) (sym shape_0);
            shape = λ z. omega (arith, shape_0);
            regular = λ z. (omega (arith, pair_0), subst (λ (x : List ℕ). Ascends 0 x) (sym ends.0) o, omega (arith, place_0));
            padding = padding_0 m b shape_0 (omega (arith, n, length_bits_of s)) ∙ f.padding;
          });
          reading = rw (shape_0, pair_0, ends.0, place_0);
          gain = ap (λ (x : List ℕ). get_or x 1 0) ends.1;
        }

  same_1 : (k g : ℕ) → HasFields s (2 ∷ 17 ∷ []) (k ∷ g ∷ []) → (k ≡ 1) ⊎ (k ≡ 2) → Same (of_shape k) g
  unfolding reading_in
  same_1 k g f o =
      let z : shape_in b ≡ k = ap (λ (x : List ℕ). get_or x 0 0) f.values in
      let n : shape_in b ≡ 0 → ⊥ = λ e. ⊎_elim (λ q. omega arith) (λ q. omega arith) o in
      let l : length s ≡ 3 = f.size in
      record {
        sound = of_faultless m (length s) b (record {
          size = rw (ne_eqb (shape_in b) 0 n) l;
          shape = λ e. ⊎_elim (λ q. omega arith) (λ q. omega arith) o;
          regular = λ e. absurd (n e);
          padding = padding_1 m b n (omega (arith, l, length_bits_of s)) ∙ f.padding;
        });
        reading = rw (ne_eqb (shape_in b) 0 n, z);
        gain = ap (λ (x : List ℕ). get_or x 1 0) (sym (laid_1 m b n) ∙ f.values);
      }

  pub same : {r : Reading} {g : ℕ} → Names m s r g → Same r g
  same (regular pair place gain codes f p o q) = same_0 pair place gain codes f p o q
  same (other k g f o) = same_1 k g f o

-- ---- each reading is named by a claim

-- values at their widths, and zero bits to the byte
made : (ws vs : List ℕ) (pad n : ℕ) → length ws ≡ length vs → FitIn ws vs → width_of ws + pad ≡ 8 * n → pad ≤ 7 → (s : List ℕ) × HasFields s ws vs
made ws vs pad n l f e p =
    let s : List ℕ = pack_bytes n (ws ++ (pad ∷ [])) (vs ++ (0 ∷ [])) in
    let long : length (ws ++ (pad ∷ [])) ≡ length (vs ++ (0 ∷ [])) = omega (arith, l, length-append ws (pad ∷ []), length-append vs (0 ∷ [])) in
    let fit : FitIn (ws ++ (pad ∷ [])) (vs ++ (0 ∷ [])) = fit_append ws vs (pad ∷ []) (0 ∷ []) l f (fit_all (pad ∷ []) (0 ∷ []) (lib.Pow.pow_pos pad, refl)) in
    let whole : width_of (ws ++ (pad ∷ [])) ≡ 8 * n = omega (arith, e, sum_append ws (pad ∷ [])) in
    let back : unpack ws (bits_of s) ++ unpack (pad ∷ []) (drop (width_of ws) (bits_of s)) ≡ vs ++ (0 ∷ []) =
    sym (unpack_append ws (pad ∷ []) (bits_of s)) ∙ fields_bytes (ws ++ (pad ∷ [])) (vs ++ (0 ∷ [])) n long fit whole in
    let ends = app_inj (unpack ws (bits_of s)) vs _ (0 ∷ []) (length_unpack ws (bits_of s) ∙ l) back in
    let size : length s ≡ n = length_unpack (eights n) _ ∙ length-replicate {A = ℕ} n 8 in
    let all : take pad (drop (width_of ws) (bits_of s)) ≡ drop (width_of ws) (bits_of s) = take_all pad (drop (width_of ws) (bits_of s))
    (omega (arith, length-drop (width_of ws) (bits_of s), length_bits_of s, size, e)) in
    (s, record { size = omega (arith, size, e, p); values = ends.0; padding = ap (val 0) (sym all) ∙ ap (λ (x : List ℕ). get_or x 0 0) ends.1 })

pub codes_below : (c : ℕ) (gs : List ℕ) → Ascends c gs → EachBelow 128 gs
codes_below c [] o = below_nil 128 (omega arith)
codes_below c (g ∷ gs) o = below_cons 128 g gs (let h = group_in g o.1 in omega arith) (codes_below g gs o.2)

module _ (m : ℕ) (few : m ≤ 4) (g : ℕ) (l : g < 131072) where
  regular_claim : (pair place : ℕ) (codes : List ℕ) → length codes ≡ 4 - m → Ascends 0 codes → pair < 34 → place ≤ 4 - m
      → (s : List ℕ) × HasFields s (widths m) (0 ∷ pair ∷ (codes ++ (place ∷ g ∷ [])))
  regular_claim pair place codes size order p q =
      let f = filled m few in
      let run : FitIn (replicate (4 - m) 7) codes = fit_run (4 - m) 7 codes (omega arith) (codes_below 0 codes order) in
      let last : FitIn (3 ∷ 17 ∷ []) (place ∷ g ∷ []) = fit_all (3 ∷ 17 ∷ []) (place ∷ g ∷ []) (omega arith, (omega arith, refl)) in
      let rest : FitIn (replicate (4 - m) 7 ++ (3 ∷ 17 ∷ [])) (codes ++ (place ∷ g ∷ [])) = fit_append (replicate (4 - m) 7) codes (3 ∷ 17 ∷ [])
      (place ∷ g ∷ []) (length-replicate {A = ℕ} (4 - m) 7 ∙ sym size) run last in
      made (widths m) (0 ∷ pair ∷ (codes ++ (place ∷ g ∷ []))) (pad_of 0 m) (length_of 0 m)
      (omega (arith, size, length-append {A = ℕ} (replicate (4 - m) 7) (3 ∷ 17 ∷ []), length-replicate {A = ℕ} (4 - m) 7, length-append codes (place ∷ g ∷ [])))
      (fit_cons 2 0 (6 ∷ (replicate (4 - m) 7 ++ (3 ∷ 17 ∷ []))) (pair ∷ (codes ++ (place ∷ g ∷ []))) (omega arith)
      (fit_cons 6 pair (replicate (4 - m) 7 ++ (3 ∷ 17 ∷ [])) (codes ++ (place ∷ g ∷ [])) (omega arith) rest))
      (omega (arith, sum_widths m)) f.1

  other_claim : (k : ℕ) → k < 3 → (s : List ℕ) × HasFields s (2 ∷ 17 ∷ []) (k ∷ g ∷ [])
  other_claim k h = made (2 ∷ 17 ∷ []) (k ∷ g ∷ []) 5 3 refl (fit_all (2 ∷ 17 ∷ []) (k ∷ g ∷ []) (omega arith, (omega arith, refl))) refl (omega arith)

  pub claimable : (t : List ℕ) (win : ℕ) (r : Reading) → IsReading t m win r → (s : List ℕ) × Names m s r g
  claimable t win r (Readings.regular i) =
      let e : record { shape = 0; pair = r.pair; groups = i.codes ++ replicate m 68; place = r.place } ≡ r =
      sym (ap (λ (k : ℕ). record { shape = k; pair = r.pair; groups = r.groups; place = r.place }) i.shape
      ∙ ap (λ (x : List ℕ). record { shape = 0; pair = r.pair; groups = x; place = r.place }) i.groups) in
      let c = regular_claim r.pair r.place i.codes i.size i.order i.pair i.place in
      (c.0, subst (λ (x : Reading). Names m c.0 x g) e (regular r.pair r.place g i.codes c.1 (omega (arith, i.pair)) i.order i.place))
  claimable t win r (Readings.pairs i) =
      let c = other_claim 1 (omega arith) in
      (c.0, subst (λ (x : Reading). Names m c.0 x g) (sym i.reading) (other 1 g c.1 (inl refl)))
  claimable t win r (Readings.orphans i) =
      let c = other_claim 2 (omega arith) in
      (c.0, subst (λ (x : Reading). Names m c.0 x g) (sym i.reading) (other 2 g c.1 (inr refl)))

-- ---- the form of what is named

pub formed_of : (m : ℕ) (s : List ℕ) → m ≤ 4 → {r : Reading} {g : ℕ} → Names m s r g → IsFormed m r
formed_of m s few (regular pair place gain codes f p o q) = formed pair place codes (size_of m s few pair place gain codes f.values) o (omega arith) q
formed_of m s few (other k g f o) = without_groups k o
