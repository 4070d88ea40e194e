-- The code's tests hold exactly where some bytes name the reading and the gain, and its bytes are the only ones that do.
use Rattle.std.specs.Prelude.{ℕ, zero, suc, ◌+◌, ◌-◌, ◌/◌, ◌^◌, ◌≤◌, ◌<◌, ◌≡◌, List, [], ◌∷◌, ◌++◌, ◌⊎◌, leb, eqb, length, take, drop, replicate}
use Rattle.std.proofs.Math.Path.{refl}
use Rattle.std.proofs.lemmas.List.{drop_all}
use Rattle.std.proofs.Common.{get_or, drop-cons, add-one, ltb-true, ltb-false, sym, ap, ◌∙◌, subst, inl, inr, ⊎_elim, not-suc-le-zero, le_of_suc-le-suc, length-append, length-take, take-append-drop, pow_mono, take_at, length-take-le}
use mathlib.Core.Bool.{Bool, true, false, ◌&&◌, ◌||◌, not}
use native.Mathlib.Omega.{arith}
use Rattle.std.proofs.Math.Nat.{sub-zero, suc-sub-suc}
use borrow.Author.Tests.{leb-true, le-leb, le-ltb, ltb-false, eqb-true, eqb-false, eq-eqb, ne_eqb, not-true}
use Rattle.std.proofs.Math.Dec.{ltb}
use Rattle.std.proofs.Math.ListN.{length-replicate}
use Rattle.tiles.specs.Groups.{is_group}
use Rattle.tiles.proofs.laws.Below.{and_true, or_both}
use Rattle.bits.specs.Bits.{pack, unpack, fill, width_of, eights, bits_of}
use Rattle.bits.proofs.laws.Pack.{FitIn, fit_cons, fit_append, fit_run, fit_all, below_pack, below_take, below_drop, val_lt, length_unpack}
use Rattle.reading.specs.declared.Reading.{Reading}
use Rattle.reading.specs.Reading.{Ascends, of_shape}
use Rattle.claim.specs.Claim.{HasFields, Names, regular, other}
use Rattle.claim.specs.search.Claimed.{length_of, gain_at, shape_in, gain_of}
use Rattle.claim.specs.search.Verdict.{IsFormed, formed, without_groups}
use Rattle.claim.proofs.laws.Claimed.{widths, sum_widths, filled}
use Rattle.claim.proofs.laws.Names.{same, size_of, formed_of, codes_below}
use Rattle.claim_writer.specs.declared.Claim.{Claim}
use Rattle.claim_writer.specs.Writes.{reading_of, IsClaimOf}
use Rattle.claim_writer.specs.search.Bytes.{in_order, ordered, by_shape, is_nameable, regular_values, other_values, widths_for, values_for}
use Rattle.claim_writer.specs.search.Bytes.{packed, length_for, bytes_for}
use Rattle.claim_writer.proofs.laws.Bits.{one_list, laid_fields, laid_below}

-- ---- the groups

-- one turn of the loop, and its end
pub ordered_turn : (n i low : ℕ) (g : List ℕ) → i < length g
    → ordered (n - i) low (drop i g) ≡ in_order n i low (get_or g i 0) && ordered (n - (i + 1)) (get_or g i 0) (drop (i + 1) g)
unfolding ordered
ordered_turn n i low g h = go (ltb i n) refl
  where
    go : (e : Bool) → ltb i n ≡ e → ordered (n - i) low (drop i g) ≡ in_order n i low (get_or g i 0) && ordered (n - (i + 1)) (get_or g i 0) (drop (i + 1) g)
    go true e =
        let l = ltb-true i n e in
        let k : n - i ≡ suc (n - (i + 1)) = omega arith in
        rw (k, e, add-one, drop-cons g i 0 h)
    go false e =
        let l = ltb-false i n e in
        let k : n - i ≡ 0 = omega arith in
        let j : n - (i + 1) ≡ 0 = omega arith in
        rw (k, j, e, add-one, drop-cons g i 0 h)

pub ordered_done : (n i low : ℕ) (g : List ℕ) → length g ≤ i → ordered n low (drop i g) ≡ true
unfolding ordered
ordered_done n i low g h = rw (drop_all i g h)

-- they are codes that ascend, then 68
all_68 : (low : ℕ) (gs : List ℕ) → ordered 0 low gs ≡ true → gs ≡ replicate (length gs) 68
unfolding ordered
all_68 low [] e = refl
all_68 low (g ∷ gs) e =
    let p = and_true (eqb g 68) (ordered 0 g gs) e in
    let h : g ≡ 68 = eqb-true g 68 p.0 in
    rw h (ap (λ (l : List ℕ). 68 ∷ l) (all_68 g gs p.1))

codes_of : (n low : ℕ) (gs : List ℕ) → n ≤ length gs → ordered n low gs ≡ true → Ascends low (take n gs) × (drop n gs ≡ replicate (length gs - n) 68)
unfolding ordered
codes_of zero low gs l e = (tt, rw sub-zero (all_68 low gs e))
codes_of (suc n) low [] l e = absurd (not-suc-le-zero l)
codes_of (suc n) low (g ∷ gs) l e =
    let p = and_true (leb low g && is_group g) (ordered n g gs) e in
    let q = and_true (leb low g) (is_group g) p.0 in
    let r = codes_of n g gs (le_of_suc-le-suc l) p.1 in
    ((leb-true low g q.0, q.1, r.0), rw suc-sub-suc r.1)

-- and back
of_68 : (low m : ℕ) → ordered 0 low (replicate m 68) ≡ true
unfolding ordered
of_68 low zero = refl
of_68 low (suc m) = of_68 68 m

of_codes : (low m : ℕ) (gs : List ℕ) → Ascends low gs → ordered (length gs) low (gs ++ replicate m 68) ≡ true
unfolding ordered
of_codes low m [] o = of_68 low m
of_codes low m (g ∷ gs) o = rw (le-leb low g o.0, o.1) (of_codes g m gs o.2)

-- ---- the tests by the form of what is named

-- 17 bits: the gain that bytes name is in them
gain_below : (m : ℕ) (s : List ℕ) → m ≤ 4 → {r : Reading} {g : ℕ} → Names m s r g → g < 131072
unfolding gain_of
gain_below m s few {r} {g} n =
    let b : List ℕ = bits_of s in
    let d : List ℕ = drop (gain_at (shape_in b) m) b in
    let v = val_lt (take 17 d) (below_take 2 17 d (below_drop 2 (gain_at (shape_in b) m) b (below_pack (eights (length s)) s))) in
    let l : length (take 17 d) ≤ 17 = omega (arith, length-take 17 d) in
    let p : 2 ^ length (take 17 d) ≤ 2 ^ 17 = pow_mono l in
    omega (arith, (same m s few n).gain, v, p)

one_or_two : (k : ℕ) → (k ≡ 0 → ⊥) → k ≤ 2 → (k ≡ 1) ⊎ (k ≡ 2)
one_or_two zero n l = absurd (n refl)
one_or_two (suc zero) n l = inl refl
one_or_two (suc (suc zero)) n l = inr refl
one_or_two (suc (suc (suc k))) n l = absurd (omega arith)

module _ (c : Claim) where
  abbrev m : ℕ
  m = c.m

  -- four groups
  four_of_lem : m ≤ 4 → (r : Reading) → IsFormed m r → length r.groups ≡ 4
  four_of_lem few r (formed pair place codes size order p q) = omega (arith, size, length-append codes (replicate m 68), length-replicate {A = ℕ} m 68)
  four_of_lem few r (without_groups k o) = refl

  shape_test : (r : Reading) → r ≡ reading_of c → IsFormed m r → by_shape c ≡ true
  shape_test r e (formed pair place codes size order p q) =
      let s : 0 ≡ c.shape = ap (λ (x : Reading). x.shape) e in
      let k : pair ≡ c.pair = ap (λ (x : Reading). x.pair) e in
      let l : place ≡ c.place = ap (λ (x : Reading). x.place) e in
      let g : codes ++ replicate m 68 ≡ c.groups = ap (λ (x : Reading). x.groups) e in
      let o : ordered (4 - m) 0 c.groups ≡ true = subst (λ (x : List ℕ). ordered (4 - m) 0 x ≡ true) g
      (subst (λ (n : ℕ). ordered n 0 (codes ++ replicate m 68) ≡ true) size (of_codes 0 m codes order)) in
      rw (eq-eqb c.shape 0 (sym s), le-leb c.pair 33 (omega arith), le-leb c.place (4 - m) (omega arith), o)
  shape_test r e (without_groups k o) =
      let s : k ≡ c.shape = ap (λ (x : Reading). x.shape) e in
      let p : 34 ≡ c.pair = ap (λ (x : Reading). x.pair) e in
      let l : 0 ≡ c.place = ap (λ (x : Reading). x.place) e in
      let g : replicate 4 68 ≡ c.groups = ap (λ (x : Reading). x.groups) e in
      let z : c.shape ≡ 0 → ⊥ = λ q. ⊎_elim (λ u. omega arith) (λ u. omega arith) o in
      let two : c.shape ≤ 2 = ⊎_elim (λ u. omega arith) (λ u. omega arith) o in
      let a : ordered 0 0 c.groups ≡ true = subst (λ (x : List ℕ). ordered 0 0 x ≡ true) g (of_68 0 4) in
      rw (ne_eqb c.shape 0 z, le-leb c.shape 2 two, eq-eqb c.pair 34 (sym p), eq-eqb c.place 0 (sym l), a)

  -- what has the form and a gain of 17 bits passes
  pub formed_passes : m ≤ 4 → c.gain.0 < 131072 → IsFormed m (reading_of c) → is_nameable c ≡ true
  unfolding is_nameable
  formed_passes few low f = rw (
    eq-eqb (length c.groups) 4 (four_of_lem few (reading_of c) f),
    le-ltb 4 m few,
    le-ltb 131071 c.gain.0 (omega arith),
    shape_test (reading_of c) refl f,
  )

  -- so does what bytes name
  pub passes : (s : List ℕ) → IsClaimOf c s → is_nameable c ≡ true
  passes s i = formed_passes i.few (gain_below m s i.few i.names) (formed_of m s i.few i.names)

  -- ---- its fields

  fields_by : (s : List ℕ) (r : Reading) (g : ℕ) → m ≤ 4 → r ≡ reading_of c → g ≡ c.gain.0 → Names m s r g → HasFields s (widths_for c) (values_for c)
  fields_by s r g few e k (regular pair place gain codes f p o q) =
      let z : 0 ≡ c.shape = ap (λ (x : Reading). x.shape) e in
      let a : pair ≡ c.pair = ap (λ (x : Reading). x.pair) e in
      let l : place ≡ c.place = ap (λ (x : Reading). x.place) e in
      let h : codes ++ replicate m 68 ≡ c.groups = ap (λ (x : Reading). x.groups) e in
      let t : codes ≡ take (4 - m) c.groups = sym (take_at codes (replicate m 68) (4 - m) (size_of m s few pair place gain codes f.values))
      ∙ ap (take (4 - m)) h in
      rw (eq-eqb c.shape 0 (sym z), ← a, ← l, ← t, ← k) f
  fields_by s r g few e k (other shape gain f o) =
      let z : shape ≡ c.shape = ap (λ (x : Reading). x.shape) e in
      let n : c.shape ≡ 0 → ⊥ = λ q. ⊎_elim (λ u. omega arith) (λ u. omega arith) o in
      rw (ne_eqb c.shape 0 n, ← z, ← k) f

  fields_of_lem : (s : List ℕ) → IsClaimOf c s → HasFields s (widths_for c) (values_for c)
  fields_of_lem s i = fields_by s (reading_of c) c.gain.0 i.few refl refl i.names

  -- no two lists of bytes name them
  pub only_one : (s t : List ℕ) → IsClaimOf c s → IsClaimOf c t → s ≡ t
  only_one s t i j = one_list (widths_for c) (values_for c) s t i.bytes j.bytes (fields_of_lem s i) (fields_of_lem t j)

  -- ---- and the code's bytes do

  pub long_0 : length (take (4 - m) c.groups) ≡ 4 - m → length (widths m) ≡ length (regular_values c)
  long_0 size = omega (
    arith,
    size,
    length-append {A = ℕ} (replicate (4 - m) 7) (3 ∷ 17 ∷ []),
    length-replicate {A = ℕ} (4 - m) 7,
    length-append (take (4 - m) c.groups) (c.place ∷ c.gain.0 ∷ []),
  )

  -- a regular claim
  module _ (z : c.shape ≡ 0) where
    abbrev codes : List ℕ
    codes = take (4 - m) c.groups

    bytes_0 : bytes_for c ≡ unpack (eights (length_of 0 m)) (fill 56 (pack (widths m) (regular_values c)))
    unfolding bytes_for packed length_for
    bytes_0 = rw (eq-eqb c.shape 0 z)

    groups_0 : m ≤ 4 → length c.groups ≡ 4 → ordered (4 - m) 0 c.groups ≡ true
        → Ascends 0 codes × (codes ++ replicate m 68 ≡ c.groups) × (length codes ≡ 4 - m)
    groups_0 few four t =
        let r = codes_of (4 - m) 0 c.groups (omega arith) t in
        let k : length c.groups - (4 - m) ≡ m = omega arith in
        let e : drop (4 - m) c.groups ≡ replicate m 68 = r.1 ∙ ap (λ (n : ℕ). replicate n 68) k in (
          r.0,
          ap (λ (x : List ℕ). codes ++ x) (sym e) ∙ take-append-drop (4 - m) c.groups,
          length-take-le (4 - m) c.groups (omega arith),
        )

    named_0 : (s : List ℕ) → HasFields s (widths m) (regular_values c) → c.pair ≤ 33 → c.place ≤ 4 - m → Ascends 0 codes
        → codes ++ replicate m 68 ≡ c.groups → Names m s (reading_of c) c.gain.0
    named_0 s f p q o g =
        subst (λ (n : ℕ). Names m s (record { shape = n; pair = c.pair; groups = c.groups; place = c.place }) c.gain.0) (sym z)
        (subst (λ (x : List ℕ). Names m s (record { shape = 0; pair = c.pair; groups = x; place = c.place }) c.gain.0) g
        (regular c.pair c.place c.gain.0 codes f p o q))

    fit_0 : c.gain.0 < 131072 → c.pair ≤ 33 → c.place ≤ 4 - m → Ascends 0 codes → length codes ≡ 4 - m → FitIn (widths m) (regular_values c)
    fit_0 low p q o size =
        let ws : List ℕ = replicate (4 - m) 7 in
        let ends : List ℕ = c.place ∷ c.gain.0 ∷ [] in
        let run : FitIn ws codes = fit_run (4 - m) 7 codes (omega arith) (codes_below 0 codes o) in
        let last : FitIn (3 ∷ 17 ∷ []) ends = fit_all (3 ∷ 17 ∷ []) ends (omega arith, (omega arith, refl)) in
        let l : length ws ≡ length codes = length-replicate {A = ℕ} (4 - m) 7 ∙ sym size in
        let rest : FitIn (ws ++ (3 ∷ 17 ∷ [])) (codes ++ ends) = fit_append ws codes (3 ∷ 17 ∷ []) ends l run last in
        fit_cons 2 0 (6 ∷ (ws ++ (3 ∷ 17 ∷ []))) (c.pair ∷ (codes ++ ends)) (omega arith)
        (fit_cons 6 c.pair (ws ++ (3 ∷ 17 ∷ [])) (codes ++ ends) (omega arith) rest)

    made_0 : m ≤ 4 → c.gain.0 < 131072 → length c.groups ≡ 4 → c.pair ≤ 33 → c.place ≤ 4 - m → ordered (4 - m) 0 c.groups ≡ true
        → IsClaimOf c (bytes_for c)
    made_0 few low four p q t =
        let g = groups_0 few four t in
        let w = filled m few in
        let size : length_of 0 m ≡ (width_of (widths m) + 7) / 8 = omega (arith, sum_widths m) in
        let fit = fit_0 low p q g.0 g.2 in
        let s : List ℕ = unpack (eights (length_of 0 m)) (fill 56 (pack (widths m) (regular_values c))) in
        let f : HasFields s (widths m) (regular_values c) = laid_fields (widths m) (regular_values c) (length_of 0 m) (long_0 g.2) fit size w.3 in
        subst (λ (x : List ℕ). IsClaimOf c x) (sym bytes_0) (record {
          few = few;
          bytes = laid_below (widths m) (regular_values c) (length_of 0 m) (long_0 g.2) fit size w.3;
          names = named_0 s f p q g.0 g.1;
        })

  -- a claim of another shape
  module _ (n : c.shape ≡ 0 → ⊥) where
    bytes_1 : bytes_for c ≡ unpack (eights 3) (fill 56 (pack (2 ∷ 17 ∷ []) (other_values c)))
    unfolding bytes_for packed length_for
    bytes_1 = rw (ne_eqb c.shape 0 n)

    named_1 : (s : List ℕ) → HasFields s (2 ∷ 17 ∷ []) (other_values c) → (c.shape ≡ 1) ⊎ (c.shape ≡ 2) → 34 ≡ c.pair → 0 ≡ c.place
        → replicate 4 68 ≡ c.groups → Names m s (reading_of c) c.gain.0
    named_1 s f o p q g =
        let e : of_shape c.shape ≡ reading_of c =
        ap (λ (k : ℕ). record { shape = c.shape; pair = k; groups = replicate 4 68; place = 0 }) p
        ∙ ap (λ (k : ℕ). record { shape = c.shape; pair = c.pair; groups = replicate 4 68; place = k }) q
        ∙ ap (λ (x : List ℕ). record { shape = c.shape; pair = c.pair; groups = x; place = c.place }) g in
        subst (λ (r : Reading). Names m s r c.gain.0) e (other c.shape c.gain.0 f o)

    made_1 : m ≤ 4 → c.gain.0 < 131072 → length c.groups ≡ 4 → c.shape ≤ 2 → c.pair ≡ 34 → c.place ≡ 0 → ordered 0 0 c.groups ≡ true
        → IsClaimOf c (bytes_for c)
    made_1 few low four two p q t =
        let ws : List ℕ = 2 ∷ 17 ∷ [] in
        let fit : FitIn ws (other_values c) = fit_all ws (other_values c) (omega arith, (omega arith, refl)) in
        let s : List ℕ = unpack (eights 3) (fill 56 (pack ws (other_values c))) in
        let f : HasFields s ws (other_values c) = laid_fields ws (other_values c) 3 refl fit refl (omega arith) in
        let g : replicate 4 68 ≡ c.groups = sym (all_68 0 c.groups t ∙ ap (λ (k : ℕ). replicate k 68) four) in
        subst (λ (x : List ℕ). IsClaimOf c x) (sym bytes_1) (record {
          few = few;
          bytes = laid_below ws (other_values c) 3 refl fit refl (omega arith);
          names = named_1 s f (one_or_two c.shape n two) (sym p) (sym q) g;
        })

  -- what passes
  pub parts : is_nameable c ≡ true → (m ≤ 4) × (c.gain.0 < 131072) × (length c.groups ≡ 4) × (by_shape c ≡ true)
  unfolding is_nameable
  parts e =
      let a = and_true (eqb (length c.groups) 4) (not (ltb 4 m || ltb 131071 c.gain.0) && by_shape c) e in
      let b = and_true (not (ltb 4 m || ltb 131071 c.gain.0)) (by_shape c) a.1 in
      let d = or_both (ltb 4 m) (ltb 131071 c.gain.0) (not-true (ltb 4 m || ltb 131071 c.gain.0) b.0) in
      let low : c.gain.0 < 131072 = let k = ltb-false 131071 c.gain.0 d.1 in omega arith in
      (ltb-false 4 m d.0, low, eqb-true (length c.groups) 4 a.0, b.1)

  -- is named by the code's bytes
  pub made : is_nameable c ≡ true → IsClaimOf c (bytes_for c)
  made e = let p = parts e in go (eqb c.shape 0) refl p.0 p.1 p.2 p.3
    where
      go : (x : Bool) → eqb c.shape 0 ≡ x → m ≤ 4 → c.gain.0 < 131072 → length c.groups ≡ 4 → by_shape c ≡ true → IsClaimOf c (bytes_for c)
      go true x few low four t =
          let u : leb c.pair 33 && leb c.place (4 - m) && ordered (4 - m) 0 c.groups ≡ true = rw x at t in
          let p = and_true (leb c.pair 33 && leb c.place (4 - m)) (ordered (4 - m) 0 c.groups) u in
          let q = and_true (leb c.pair 33) (leb c.place (4 - m)) p.0 in
          made_0 (eqb-true c.shape 0 x) few low four (leb-true c.pair 33 q.0) (leb-true c.place (4 - m) q.1) p.1
      go false x few low four t =
          let u : leb c.shape 2 && eqb c.pair 34 && eqb c.place 0 && ordered 0 0 c.groups ≡ true = rw x at t in
          let p = and_true (leb c.shape 2 && eqb c.pair 34 && eqb c.place 0) (ordered 0 0 c.groups) u in
          let q = and_true (leb c.shape 2 && eqb c.pair 34) (eqb c.place 0) p.0 in
          let r = and_true (leb c.shape 2) (eqb c.pair 34) q.0 in
          made_1 (eqb-false c.shape 0 x) few low four (leb-true c.shape 2 r.0) (eqb-true c.pair 34 r.1) (eqb-true c.place 0 q.1) p.1

  pub bytes_long : length (bytes_for c) ≡ length_for c
  unfolding bytes_for
  bytes_long = length_unpack (eights (length_for c)) (packed c) ∙ length-replicate {A = ℕ} (length_for c) 8
