-- Renaming suits keeps the order of readings, so that a reading has one image.
use Rattle.std.specs.Prelude.{ℕ, suc, ◌+◌, ◌≤◌, ◌<◌, ◌≡◌, List, [], ◌∷◌, ◌++◌, ◌⊎◌, length, replicate}
use Rattle.std.proofs.Common.{sym, ap, ◌∙◌, inl, inr, ⊎_elim, arith, length-append}
use Rattle.std.proofs.lemmas.List.{length-replicate}
use Rattle.bits.proofs.laws.Pack.{app_inj}
use Rattle.tiles.specs.Groups.{at_kind}
use Rattle.hand.specs.declared.Hand.{Hand}
use Rattle.reading.specs.declared.Reading.{Reading}
use Rattle.reading.specs.Reading.{used_by, IsRegular, of_shape}
use Rattle.reading.specs.Order.{Lex, key_of, Before}
use Rattle.reading.proofs.laws.Readings.{lex_append, lex_after, lex_irreflexive}
use Rattle.symmetry.specs.Renamed.{renamed}
use Rattle.symmetry.proofs.laws.Kinds.{Renaming, back, kind_order}
use Rattle.reading.proofs.laws.Suits.{pairs_alike}
use Rattle.reading.proofs.laws.Order.{lex_total, lex_parts}
use Rattle.symmetry.proofs.laws.Groups.{Carries, carries_order}
use Rattle.symmetry.proofs.laws.Readings.{place_holds, Regular, Image, plain, grouped, image_back}

-- ---- which of two regular readings comes before the other: by pair, by groups, by place

abbrev Second : List ℕ → List ℕ → ℕ → ℕ → Type 0
Second a b i j = Lex a b ⊎ ((a ≡ b) × (i < j))

abbrev First : ℕ → ℕ → List ℕ → List ℕ → ℕ → ℕ → Type 0
First x y a b i j = (x < y) ⊎ ((x ≡ y) × Second a b i j)

shape_is : (r : Reading) (m : ℕ) → r ≡ of_shape (suc m) → r.shape ≡ suc m
shape_is r m e = ap (λ (x : Reading). x.shape) e

module _ {t : List ℕ} {m win : ℕ} (r p : Reading) (x : IsRegular t m win r) (y : IsRegular t m win p) where
  abbrev a : List ℕ
  a = x.codes

  abbrev b : List ℕ
  b = y.codes

  abbrev none : List ℕ
  none = replicate m 68

  lengths : length x.codes ≡ length y.codes
  lengths = x.size ∙ sym y.size

  first_of : Before r p → First r.pair p.pair a b r.place p.place
  first_of (inl l) = absurd (omega (arith, x.shape, y.shape))
  first_of (inr (f, inl l)) = inl l
  first_of (inr (f, inr (e, l))) = inr (e, of_groups (rw (x.groups, y.groups) at l))
    where
      long : length (a ++ none) ≡ length (b ++ none)
      long = omega (arith, length-append a none, length-append b none, lengths)

      of_groups : Lex ((a ++ none) ++ (r.place ∷ [])) ((b ++ none) ++ (p.place ∷ [])) → Second a b r.place p.place
      of_groups l =
          ⊎_elim
          (λ g. ⊎_elim (λ c. inl c) (λ c. absurd (lex_irreflexive none c.1)) (lex_parts a b none none lengths g))
          (λ g. inr ((app_inj a b none none lengths g.0).0, ⊎_elim (λ k. k) (λ k. absurd k.1) g.1))
          (lex_parts (a ++ none) (b ++ none) (r.place ∷ []) (p.place ∷ []) long l)

  of_first : First r.pair p.pair a b r.place p.place → Before r p
  of_first (inl l) = inr (x.shape ∙ sym y.shape, inl l)
  of_first (inr (e, o)) = inr (x.shape ∙ sym y.shape, inr (e, rw (x.groups, y.groups) (by o)))
    where
      by : Second a b r.place p.place → Lex ((a ++ none) ++ (r.place ∷ [])) ((b ++ none) ++ (p.place ∷ []))
      by (inl l) = lex_append (a ++ none) (b ++ none) _ _ (lex_append a b _ _ l)
      by (inr (e, l)) = rw e (lex_after (b ++ none) (r.place ∷ []) (p.place ∷ []) (inl l))

-- ---- the order of images

module _ (u : Renaming) (h k : Hand) where
  regular_before : (r p q c : Reading) (x : Regular h r) (y : Regular h p) (v : Regular k q) (w : Regular k c)
      → q.pair ≡ renamed u.to r.pair → c.pair ≡ renamed u.to p.pair
      → Carries u x.codes v.codes r.place q.place → Carries u y.codes w.codes p.place c.place → Before r p → Before q c
  regular_before r p q c x y v w eq ec s z l = of_first q c v w (go (first_of r p x y l))
    where
      tiles : (j : ℕ) → at_kind r.pair 2 j + used_by x.codes j ≡ at_kind p.pair 2 j + used_by y.codes j
      tiles j = sym (x.tiles j) ∙ y.tiles j

      used : r.pair ≡ p.pair → (j : ℕ) → used_by x.codes j ≡ used_by y.codes j
      used e j = omega (arith, tiles j, ap (λ (n : ℕ). at_kind n 2 j) e)

      go : First r.pair p.pair x.codes y.codes r.place p.place → First q.pair c.pair v.codes w.codes q.place c.place
      go (inl l) = inl (rw (eq, ec) (kind_order u r.pair p.pair (pairs_alike r.pair p.pair x.codes y.codes x.order y.order tiles) l))
      go (inr (e, l)) = inr (
        eq ∙ ap (renamed u.to) e ∙ sym ec,
        carries_order u x.codes v.codes y.codes w.codes x.order v.order y.order w.order (omega (arith, x.size)) (lengths r p x y)
            (used e)
            h.fields.winning r.place q.place p.place c.place s z (λ i f. (place_holds r x i f).1) (λ i f. (place_holds p y i f).1) l,
      )

  pub image_before : (r p q c : Reading) → Image u h k r q → Image u h k p c → Before r p → Before q c
  image_before r p q c (grouped x v eq s) (grouped y w ec z) l = regular_before r p q c x y v w eq ec s z l
  image_before r p q c (grouped x v eq s) (plain n _ _ ep ec) l = rw ec (inl (rw v.shape (omega arith)))
  image_before r p q c (plain m _ _ er eq) (grouped y w ec z) l =
      absurd (⊎_elim (λ i. omega (arith, y.shape, shape_is r m er)) (λ i. omega (arith, y.shape, i.0, shape_is r m er)) l)
  image_before r p q c (plain m _ _ er eq) (plain n _ _ ep ec) l = rw (eq, ec) (rw (er, ep) at l)

-- ---- a reading has one image

same_key : (q c : Reading) → length q.groups ≡ length c.groups → key_of q ≡ key_of c → q ≡ c
same_key q c l e =
    let es : q.shape ≡ c.shape = cc in
    let ep : q.pair ≡ c.pair = cc in
    let er : q.groups ++ (q.place ∷ []) ≡ c.groups ++ (c.place ∷ []) = cc in
    let g = app_inj q.groups c.groups (q.place ∷ []) (c.place ∷ []) l er in
    let eg = g.0 in
    let e1 = g.1 in
    let el : q.place ≡ c.place = cc in
    λ i. record { shape = es i; pair = ep i; groups = eg i; place = el i }

module _ (u : Renaming) (h k : Hand) (few : k.held.m ≤ 4) where
  image_long : (r q : Reading) → Image u h k r q → length q.groups ≡ 4
  image_long r q (plain m _ _ er eq) = ap (λ (x : Reading). length x.groups) eq
  image_long r q (grouped x y e c) =
      ap (λ (l : List ℕ). length l) y.groups
      ∙ length-append y.codes (replicate k.held.m 68)
      ∙ omega (arith, y.size, length-replicate {A = ℕ} k.held.m 68)

  pub image_same : (r q c : Reading) → Image u h k r q → Image u h k r c → q ≡ c
  image_same r q c i j =
      let l : length q.groups ≡ length c.groups = image_long r q i ∙ sym (image_long r c j) in
      let n : length (key_of q) ≡ length (key_of c) = omega (arith, length-append q.groups (q.place ∷ []), length-append c.groups (c.place ∷ [])) in
      ⊎_elim (λ b. absurd (never q c i j b)) (⊎_elim (λ e. same_key q c l e) (λ b. absurd (never c q j i b))) (lex_total (key_of q) (key_of c) n)
    where
      never : (q c : Reading) → Image u h k r q → Image u h k r c → Before q c → ⊥
      never q c i j b = lex_irreflexive (key_of r) (image_before (back u) k h q c r r (image_back u h k r q i) (image_back u h k r c j) b)
