-- Each reading of a hand has one of the hand with suits renamed.
use Prim.Native.Nat.{ℕ, suc, ◌+◌, ◌-◌, ◌≤◌, ◌<◌}
use Rattle.std.specs.Prelude.{◌≡◌, true, List, [], ◌∷◌, ◌++◌, leb, length, get_or, replicate}
use Rattle.std.proofs.Math.Path.{refl}
use Rattle.std.proofs.Common.{sym, ap, ◌∙◌, subst, arith, leb-true, le-leb}
use Rattle.std.proofs.Math.ListN.{get_or-append}
use Rattle.tiles.specs.Groups.{is_group, at_kind, uses}
use Rattle.hand.specs.declared.Hand.{Hand}
use Rattle.hand.specs.Hand.{concealed_tally}
use Rattle.reading.specs.declared.Reading.{Reading}
use Rattle.reading.specs.Reading.{used_by, Ascends, holds, IsRegular, of_shape, regular, pairs, orphans}
use Rattle.score.specs.Named.{IsReadingOf}
use Rattle.symmetry.specs.Renamed.{renamed}
use Rattle.symmetry.proofs.laws.Kinds.{Renaming, back, there_back, test_stays, lt_stays}
use Rattle.symmetry.proofs.laws.Codes.{renamed_code, at_kind_lem, uses_code}
use Rattle.tiles.proofs.laws.Sums.{sum_over}
use Rattle.reading.proofs.laws.Order.{group_at}
use Rattle.symmetry.proofs.laws.Groups.{Sums, Placed, Carries, at_pair, at_group, carries_back, carried, carried_length, carried_order, carried_place}
use Rattle.symmetry.proofs.laws.Tallies.{pairs_stay, orphans_stay}
use Rattle.symmetry.proofs.laws.Hands.{Renames, renames_back, win_renamed, concealed_tally_lem}
use Rattle.tiles.proofs.laws.Tabulate.{get_d_any}

-- ---- the tiles of groups

over_used : (k : ℕ) (l : List ℕ) → sum_over (λ c. uses c k) l ≡ used_by l k
unfolding sum_over used_by
over_used k [] = refl
over_used k (c ∷ l) = rw (over_used k l)

over_groups : (φ ψ : ℕ → ℕ) (lo : ℕ) (l : List ℕ) → Ascends lo l → ((c : ℕ) → is_group c ≡ true → φ c ≡ ψ c) → sum_over φ l ≡ sum_over ψ l
unfolding sum_over
over_groups φ ψ lo [] s h = refl
over_groups φ ψ lo (c ∷ l) s h = rw (h c s.1, over_groups φ ψ c l s.2 h)

used_stays : (u : Renaming) (a b : List ℕ) → Ascends 0 a → Sums u a b → (k : ℕ) → used_by b (renamed u.to k) ≡ used_by a k
used_stays u a b o s k =
    sym (over_used (renamed u.to k) b)
    ∙ s (λ c. uses c (renamed u.to k))
    ∙ over_groups (λ c. uses (renamed_code u.to c) (renamed u.to k)) (λ c. uses c k) 0 a o (λ c g. uses_code u c k g)
    ∙ over_used k a

-- ---- the group at a place

holds_at : (pair m win : ℕ) (l : List ℕ) (p : ℕ) → p < length l → holds pair (l ++ replicate m 68) (suc p) win ≡ leb 1 (uses (get_or l p 0) win)
unfolding holds
holds_at pair m win l p h = ap (λ (c : ℕ). leb 1 (uses c win)) (get_or-append l (replicate m 68) 68 p h ∙ get_d_any l p 68 0 h)

-- "the pair or group, holding the winning tile's kind"
pub place_holds : {t : List ℕ} {m win : ℕ} (r : Reading) (x : IsRegular t m win r) (p : ℕ)
    → r.place ≡ suc p → (p < length x.codes) × (1 ≤ uses (get_or x.codes p 0) win)
place_holds {t} {m} {win} r x p e =
    let l : p < length x.codes = omega (arith, x.place, x.size) in
    let h : holds r.pair (x.codes ++ replicate m 68) (suc p) win ≡ true = rw (x.groups, e) at x.holding in
    (l, leb-true 1 _ (sym (holds_at r.pair m win x.codes p l) ∙ h))

-- ---- a reading and its image

-- r is a regular reading of the hand
abbrev pub Regular : Hand → Reading → Type 0
Regular h r = IsRegular (concealed_tally h) h.held.m h.fields.winning r

-- q of the hand k is r of the hand h renamed: a shape without groups, or the pair renamed and the groups renamed and in order, with the place
pub data Image (u : Renaming) (h k : Hand) (r q : Reading) : Type 0 where
  plain : (f : ℕ) → h.held.m ≡ 0 → k.held.m ≡ 0 → r ≡ of_shape (suc f) → q ≡ of_shape (suc f) → Image u h k r q
  grouped : (x : Regular h r) (y : Regular k q) → q.pair ≡ renamed u.to r.pair → Carries u x.codes y.codes r.place q.place → Image u h k r q

-- renamed back
pub image_back : (u : Renaming) (h k : Hand) (r q : Reading) → Image u h k r q → Image (back u) k h q r
image_back u h k r q (plain f a b c d) = plain f b a d c
image_back u h k r q (grouped x y e c) =
    grouped y x (sym (ap (renamed u.from) e ∙ there_back u r.pair)) (carries_back u x.codes y.codes r.place q.place c)

module _ (u : Renaming) (h k : Hand) (s : Renames u h k) where
  abbrev f : ℕ → ℕ
  f = renamed u.to

  -- ---- a regular one
  module _ (r : Reading) (x : Regular h r) (j : ℕ) (c : Carries u x.codes (carried u x.codes) r.place j) where
    abbrev a : List ℕ
    a = x.codes

    abbrev b : List ℕ
    b = carried u x.codes

    abbrev image : Reading
    image = record { shape = 0; pair = f r.pair; groups = b ++ replicate k.held.m 68; place = j }

    long : length b ≡ 4 - k.held.m
    long = carried_length u a b c.sums ∙ x.size ∙ ap (λ (n : ℕ). 4 - n) (sym s.m)

    tiles : (i : ℕ) → get_or (concealed_tally k) i 0 ≡ at_kind (f r.pair) 2 i + used_by b i
    tiles i = subst (λ (z : ℕ). get_or (concealed_tally k) z 0 ≡ at_kind (f r.pair) 2 z + used_by b z) (there_back (back u) i) (at_image (renamed u.from i))
      where
        at_image : (i : ℕ) → get_or (concealed_tally k) (f i) 0 ≡ at_kind (f r.pair) 2 (f i) + used_by b (f i)
        at_image i = concealed_tally_lem u h k s i ∙ x.tiles i ∙ sym (rw (at_kind_lem u r.pair 2 i, used_stays u a b x.order c.sums i))

    placed : (j ≤ 4 - k.held.m) × (holds image.pair image.groups j k.fields.winning ≡ true)
    unfolding holds
    placed = go c.place
      where
        win : ℕ
        win = h.fields.winning

        go : Placed u a b r.place j → (j ≤ 4 - k.held.m) × (holds image.pair image.groups j k.fields.winning ≡ true)
        go (at_pair p q) =
            let e : holds r.pair r.groups 0 win ≡ true = rw p at x.holding in
            (omega arith, rw (q, win_renamed u h k s) (test_stays u win r.pair ∙ e))
        go (at_group p q ei ej lp lq e z) =
            let g = group_at 0 a p x.order lp in
            let y : 1 ≤ uses (get_or b q 0) k.fields.winning = rw (e, win_renamed u h k s, uses_code u (get_or a p 0) win g) (place_holds r x p ei).1 in
            let z : holds image.pair image.groups (suc q) k.fields.winning ≡ true =
            holds_at (f r.pair) k.held.m k.fields.winning b q lq ∙ le-leb 1 _ y in
            (omega (arith, long), rw ej z)

    reads : IsRegular (concealed_tally k) k.held.m k.fields.winning image
    reads = record {
      shape = refl;
      codes = b;
      size = long;
      groups = refl;
      order = carried_order u a x.order;
      pair = lt_stays u 34 r.pair (omega arith) x.pair;
      tiles = tiles;
      place = placed.0;
      holding = placed.1;
    }

    of_regular : (q : Reading) × IsReadingOf k q × Image u h k r q
    unfolding reads
    of_regular = (image, regular reads, grouped x reads refl c)

  -- ---- and any other

  none : h.held.m ≡ 0 → k.held.m ≡ 0
  none e = s.m ∙ e

  tally : (i : ℕ) → i < 34 → get_or (concealed_tally k) (f i) 0 ≡ get_or (concealed_tally h) i 0
  tally i l = concealed_tally_lem u h k s i

  pub image_of : (r : Reading) → IsReadingOf h r → (q : Reading) × IsReadingOf k q × Image u h k r q
  image_of r (regular x) = let (j, c) = carried_place u x.codes x.order r.place (omega (arith, x.place, x.size)) in of_regular r x j c
  image_of r (pairs x) = (
    of_shape 1,
    pairs (record { meldless = none x.meldless; kinds = pairs_stay u (concealed_tally h) (concealed_tally k) tally ∙ x.kinds; reading = refl }),
    plain 0 x.meldless (none x.meldless) x.reading refl,
  )
  image_of r (orphans x) = (
    of_shape 2,
    orphans (record { meldless = none x.meldless; kinds = orphans_stay u (concealed_tally h) (concealed_tally k) tally ∙ x.kinds; reading = refl }),
    plain 1 x.meldless (none x.meldless) x.reading refl,
  )

-- each reading of the renamed hand is an image
pub image_from : (u : Renaming) (h k : Hand) → Renames u h k → (q : Reading) → IsReadingOf k q → (r : Reading) × IsReadingOf h r × Image u h k r q
image_from u h k s q i = let (r, j, m) = image_of (back u) k h (renames_back u h k s) q i in (r, j, image_back (back u) k h q r m)
