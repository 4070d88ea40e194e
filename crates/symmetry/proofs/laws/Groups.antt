-- The groups of a reading renamed and put in order, with the place that the winning tile completes: there are such, and the order of two stays.
use Rattle.std.specs.Prelude.{ℕ, zero, suc, ◌≤◌, ◌<◌, ◌≡◌, refl, Bool, true, false, List, [], ◌∷◌, map, ◌⊎◌, ltb, eqb, length, get_or, take}
use Rattle.std.proofs.Common.{sym, ap, ◌∙◌, subst, inl, inr, ⊎_elim, arith, ltb-true, ltb-false, eqb-true}
use Rattle.std.proofs.lemmas.Bool.{eqb-false}
use Rattle.std.proofs.Math.Seq.{take-length}
use Rattle.tiles.specs.Groups.{is_group, at_kind, uses}
use Rattle.tiles.proofs.laws.Tally.{of_kind}
use Rattle.reading.specs.Reading.{used_by, Ascends}
use Rattle.reading.specs.Order.{Lex}
use Rattle.symmetry.proofs.laws.Kinds.{Renaming, back}
use Rattle.symmetry.proofs.laws.Codes.{renamed_code, code_back, at_code, is_group_code, code_order}
use Rattle.reading.proofs.laws.Suits.{suit_of, one_suit, uses_suit}
use Rattle.tiles.proofs.laws.Sums.{sum_over, over_map, over_cong, over_length, over_kind}
use Rattle.symmetry.proofs.laws.Sorted.{in_order, All, Ordered, over_in_order, ordered}
use Rattle.reading.proofs.laws.Order.{lex_total, first_differs, same_groups, kind_group, ascends_at, group_at, rank_later, rank_at}

-- b has the groups of a, renamed: each sum over them is the same
abbrev pub Sums : Renaming → List ℕ → List ℕ → Type 0
Sums u a b = (φ : ℕ → ℕ) → sum_over φ b ≡ sum_over (λ c. φ (renamed_code u.to c)) a

-- the place j among b is the place i among a: the pair's, or that of the group renamed with as many equal ones before it
pub data Placed (u : Renaming) (a b : List ℕ) (i j : ℕ) : Type 0 where
  at_pair : i ≡ 0 → j ≡ 0 → Placed u a b i j
  at_group : (p q : ℕ) → i ≡ suc p → j ≡ suc q → p < length a → q < length b → get_or b q 0 ≡ renamed_code u.to (get_or a p 0)
      → of_kind (take q b) (renamed_code u.to (get_or a p 0)) ≡ of_kind (take p a) (get_or a p 0) → Placed u a b i j

-- b with the place j is a with the place i, renamed
pub record Carries (u : Renaming) (a b : List ℕ) (i j : ℕ) : Type 0 where
  pub sums : Sums u a b
  pub place : Placed u a b i j

module _ (u : Renaming) (a b : List ℕ) (s : Sums u a b) where
  abbrev F : ℕ → ℕ
  F = renamed_code u.to

  pub carried_kind : (x : ℕ) → of_kind b (F x) ≡ of_kind a x
  carried_kind x =
      sym (over_kind b (F x)) ∙ s (λ c. at_kind c 1 (F x)) ∙ over_cong (λ c. at_kind (F c) 1 (F x)) (λ c. at_kind c 1 x) a (λ c. at_code u c 1 x) ∙ over_kind a x

  pub carried_length : length b ≡ length a
  carried_length = sym (over_length b) ∙ s (λ c. 1) ∙ over_length a

-- renamed back
pub carries_back : (u : Renaming) (a b : List ℕ) (i j : ℕ) → Carries u a b i j → Carries (back u) b a j i
carries_back u a b i j c = record {
  sums =
      λ φ. sym (c.sums (λ x. φ (renamed_code u.from x)) ∙ over_cong (λ x. φ (renamed_code u.from (renamed_code u.to x))) φ a
      (λ x. ap φ (code_back u x)));
  place = go c.place;
}
  where
    go : Placed u a b i j → Placed (back u) b a j i
    go (at_pair p q) = at_pair q p
    go (at_group p q ei ej lp lq e r) =
        let z : renamed_code u.from (get_or b q 0) ≡ get_or a p 0 = ap (renamed_code u.from) e ∙ code_back u (get_or a p 0) in
        at_group q p ej ei lq lp (sym z) (rw (z, e) (sym r))

-- ---- there are such

ascends_of : (lo : ℕ) (l : List ℕ) → Ordered (λ c. is_group c ≡ true) lo l → Ascends lo l
ascends_of lo [] s = tt
ascends_of lo (c ∷ l) s = (s.0, s.1, ascends_of c l s.2)

-- the groups renamed and put in order
abbrev pub carried : Renaming → List ℕ → List ℕ
carried u a = in_order (map (renamed_code u.to) a)

module _ (u : Renaming) (a : List ℕ) (o : Ascends 0 a) where
  all_groups : (lo : ℕ) (l : List ℕ) → Ascends lo l → All (λ c. is_group c ≡ true) (map (renamed_code u.to) l)
  all_groups lo [] s = tt
  all_groups lo (c ∷ l) s = (is_group_code u c ∙ s.1, all_groups c l s.2)

  pub carried_order : Ascends 0 (carried u a)
  carried_order = ascends_of 0 (carried u a) (ordered (λ c. is_group c ≡ true) (map (renamed_code u.to) a) (all_groups 0 a o))

  pub carried_sums : Sums u a (carried u a)
  carried_sums φ = over_in_order φ (map (renamed_code u.to) a) ∙ over_map φ (renamed_code u.to) a

  pub carried_place : (i : ℕ) → i ≤ length a → (j : ℕ) × Carries u a (carried u a) i j
  carried_place zero h = (0, record { sums = carried_sums; place = at_pair refl refl })
  carried_place (suc p) h =
      let c : ℕ = get_or a p 0 in
      let l = rank_later a c p (length a) h h refl in
      let n : of_kind (take p a) c < of_kind (carried u a) (renamed_code u.to c) =
      rw (carried_kind u a (carried u a) carried_sums c) (rw (take-length a) at l) in
      let r = rank_at (carried u a) (renamed_code u.to c) (of_kind (take p a) c) n in
      (suc r.0, record { sums = carried_sums; place = at_group p r.0 refl refl h r.1 r.2 r.3 })

-- ---- the order of two stays

module _ (u : Renaming) (a b a' b' : List ℕ) (oa : Ascends 0 a) (ob : Ascends 0 b) (oa' : Ascends 0 a') (ob' : Ascends 0 b')
    (few : length a ≤ 4) (long : length a ≡ length a') (same : (k : ℕ) → used_by a k ≡ used_by a' k) (s : Sums u a b) (s' : Sums u a' b') where
  abbrev F₀ : ℕ → ℕ
  F₀ = renamed_code u.to

  lengths : length b ≡ length b'
  lengths = carried_length u a b s ∙ long ∙ sym (carried_length u a' b' s')

  -- that of groups with the same tiles
  groups_order : Lex a a' → Lex b b'
  groups_order l = ⊎_elim (λ g. g) (⊎_elim (λ e. absurd (equal e)) (λ g. absurd (other g))) (lex_total b b' lengths)
    where
      x : ℕ
      x = (first_differs 0 a a' oa oa' l).0

      more : of_kind a' x < of_kind a x
      more = (first_differs 0 a a' oa oa' l).1

      equal : b ≡ b' → ⊥
      equal e = omega (arith, more, carried_kind u a b s x, carried_kind u a' b' s' x, ap (λ (z : List ℕ). of_kind z (F₀ x)) e)

      not_both : (y z : ℕ) → F₀ y ≡ z → (y < x → ⊥) → (x ≡ y → ⊥) → (F₀ x < z → ⊥) → suit_of x ≡ suit_of y → ⊥
      not_both y z f p q r e = r (omega (arith, code_order u x y e (omega arith)))

      other : Lex b' b → ⊥
      other g =
          let d = first_differs 0 b' b ob' ob g in
          let y : ℕ = renamed_code u.from d.0 in
          let f : F₀ y ≡ d.0 = code_back (back u) d.0 in
          let cb : of_kind b d.0 ≡ of_kind a y = ap (of_kind b) (sym f) ∙ carried_kind u a b s y in
          let cb' : of_kind b' d.0 ≡ of_kind a' y = ap (of_kind b') (sym f) ∙ carried_kind u a' b' s' y in
          let less : of_kind a y < of_kind a' y = omega (arith, d.1) in
          let hx = kind_group 0 a x oa (omega (arith, more)) in
          let hy = kind_group 0 a' y oa' (omega arith) in
          not_both y d.0 f (λ z. omega (arith, (first_differs 0 a a' oa oa' l).2 y z)) (λ z. omega (arith, more, ap (of_kind a) z, ap (of_kind a') z))
          (λ z. omega (arith, more, d.2 (F₀ x) z, carried_kind u a b s x, carried_kind u a' b' s' x))
          (one_suit a a' oa oa' same few x y hx hy (λ z. omega (arith, more)) (λ z. omega arith))

  -- that of the same groups
  same_image : a ≡ a' → b ≡ b'
  same_image e =
      same_groups b b' ob ob' lengths
      (λ y.
      let z : ℕ = renamed_code u.from y in
      let f : F₀ z ≡ y = code_back (back u) y in
      ap (of_kind b) (sym f) ∙ carried_kind u a b s z ∙ ap (λ (l : List ℕ). of_kind l z) e ∙ sym (carried_kind u a' b' s' z) ∙ ap (of_kind b') f)

-- that of two places among the same groups, both with the winning tile
place_order : (u : Renaming) (a b : List ℕ) (win i j i' j' : ℕ) → Ascends 0 a → Ascends 0 b
    → ((p : ℕ) → i ≡ suc p → 1 ≤ uses (get_or a p 0) win) → ((p : ℕ) → i' ≡ suc p → 1 ≤ uses (get_or a p 0) win) → Placed u a b i j → Placed u a b i' j' → i < i'
    → j < j'
place_order u a b win i j i' j' oa ob h h' (at_pair p q) (at_pair p' q') l = absurd (omega arith)
place_order u a b win i j i' j' oa ob h h' (at_pair p q) (at_group p' q' ei ej lp lq e r) l = omega arith
place_order u a b win i j i' j' oa ob h h' (at_group p q ei ej lp lq e r) (at_pair p' q') l = absurd (omega arith)
place_order u a b win i j i' j' oa ob h h' (at_group p q ei ej lp lq e r) (at_group p' q' ei' ej' lp' lq' e' r') l =
    let c : ℕ = get_or a p 0 in
    let d : ℕ = get_or a p' 0 in
    let suits : suit_of c ≡ suit_of d = uses_suit c win (group_at 0 a p oa lp) (h p ei) ∙ sym (uses_suit d win (group_at 0 a p' oa lp') (h' p' ei')) in
    let m : q < q' = go c d suits (ascends_at 0 a p p' oa (omega arith) lp').1 (eqb c d) (ltb q q') refl refl refl refl in
    omega arith
  where
    -- of equal groups the one with fewer before it comes first
    later : (m n x : ℕ) → m < n → of_kind (take q b) x ≡ m → of_kind (take q' b) x ≡ n → get_or b q' 0 ≡ x → q' ≤ q → ⊥
    later m n x k f g w z = by (eqb q' q) refl
      where
        by : (y : Bool) → eqb q' q ≡ y → ⊥
        by true v = omega (arith, ap (λ (i : ℕ). of_kind (take i b) x) (eqb-true q' q v))
        by false v = omega (arith, rank_later b x q' q (omega (arith, eqb-false q' q v)) lq' w)

    go : (c d : ℕ) → suit_of c ≡ suit_of d → c ≤ d → (x y : Bool) → eqb c d ≡ x → ltb q q' ≡ y → get_or a p 0 ≡ c → get_or a p' 0 ≡ d → q < q'
    go c d s m x true t z ec ed = ltb-true q q' z
    go c d s m true false t z ec ed =
        let v : c ≡ d = eqb-true c d t in
        let n = rank_later a c p p' (omega arith) lp ec in
        absurd (later _ _ (renamed_code u.to c) n (rw ec at r) (rw (ed, ← v) at r') (rw (ed, ← v) at e') (ltb-false q q' z))
    go c d s m false false t z ec ed =
        let w = (ascends_at 0 b q' q ob (ltb-false q q' z) lq).1 in
        let o = code_order u c d s (omega (arith, eqb-false c d t)) in
        absurd (omega (arith, e, e', ap (renamed_code u.to) ec, ap (renamed_code u.to) ed))

-- both
module _ (u : Renaming) (a b a' b' : List ℕ) (oa : Ascends 0 a) (ob : Ascends 0 b) (oa' : Ascends 0 a') (ob' : Ascends 0 b')
    (few : length a ≤ 4) (long : length a ≡ length a') (same : (k : ℕ) → used_by a k ≡ used_by a' k) (win i j i' j' : ℕ) (c : Carries u a b i j)
    (c' : Carries u a' b' i' j')
    (h : (p : ℕ) → i ≡ suc p → 1 ≤ uses (get_or a p 0) win) (h' : (p : ℕ) → i' ≡ suc p → 1 ≤ uses (get_or a' p 0) win) where
  pub carries_order : Lex a a' ⊎ ((a ≡ a') × (i < i')) → Lex b b' ⊎ ((b ≡ b') × (j < j'))
  carries_order (inl l) = inl (groups_order u a b a' b' oa ob oa' ob' few long same c.sums c'.sums l)
  carries_order (inr (e, l)) =
      let f = same_image u a b a' b' oa ob oa' ob' few long same c.sums c'.sums e in
      let z : Placed u a b i' j' = subst (λ (x : List ℕ). Placed u x b i' j') (sym e) (subst (λ (x : List ℕ). Placed u a' x i' j') (sym f) c'.place) in
      inr (f, place_order u a b win i j i' j' oa ob h (λ p q. rw (← e) at (h' p q)) c.place z l)
