-- Complete hands: 14 - 3m tiles that read, whichever of them came last.
use Rattle.std.specs.Prelude.{◌≡◌, refl, Bool, true, false, cond, List, [], ◌∷◌, ◌++◌, ℕ, suc, ◌+◌, ◌-◌, ◌≤◌, ◌<◌, ltb, leb, eqb, length, get_or, replicate}
use Rattle.std.proofs.Common.{sym, ap, ◌∙◌, arith, eq-eqb, ltb-true, ltb-false, leb-true, leb-false, eqb-true}
use Rattle.std.proofs.lemmas.Bool.{eqb-false}
use Rattle.std.proofs.Math.ListN.{get_or-append, get_or-eq_default}
use Rattle.tiles.specs.Groups.{is_group, at_kind, uses}
use Rattle.reading.specs.declared.Reading.{Reading}
use Rattle.reading.specs.Reading.{used_by, Ascends, holds, IsReading, regular}
use Rattle.reading.specs.search.Readings.{regular_of}
use Rattle.reading.proofs.laws.Groups.{at_other}
use Rattle.ready_choices.specs.search.Moves.{g_of, a_of, b_of, state}
use Rattle.ready_choices.proofs.laws.Reach.{Reach}
use Rattle.ready_choices.proofs.laws.Built.{AllGroups, Built, built}

-- ---- groups in order
unfoldable pub insert : ℕ → List ℕ → List ℕ
insert g [] = g ∷ []
insert g (h ∷ l) = cond (leb g h) (g ∷ (h ∷ l)) (h ∷ insert g l)

unfoldable pub sort : List ℕ → List ℕ
sort [] = []
sort (g ∷ l) = insert g (sort l)

either : (P : List ℕ → Type 0) (b : Bool) (x y : List ℕ) → (b ≡ true → P x) → (b ≡ false → P y) → P (cond b x y)
either P true x y f g = f refl
either P false x y f g = g refl

insert_used : (g : ℕ) (l : List ℕ) (k : ℕ) → used_by (insert g l) k ≡ uses g k + used_by l k
unfolding insert used_by
insert_used g [] k = refl
insert_used g (h ∷ l) k =
    either (λ x. used_by x k ≡ uses g k + (uses h k + used_by l k)) (leb g h) (g ∷ (h ∷ l)) (h ∷ insert g l) (λ e. refl) (λ e. omega (arith, insert_used g l k))

insert_length : (g : ℕ) (l : List ℕ) → length (insert g l) ≡ suc (length l)
unfolding insert
insert_length g [] = refl
insert_length g (h ∷ l) =
    either (λ x. length x ≡ suc (suc (length l))) (leb g h) (g ∷ (h ∷ l)) (h ∷ insert g l) (λ e. refl) (λ e. ap suc (insert_length g l))

insert_ascends : (g c : ℕ) (l : List ℕ) → c ≤ g → is_group g ≡ true → Ascends c l → Ascends c (insert g l)
unfolding insert
insert_ascends g c [] h i a = (h, i, tt)
insert_ascends g c (x ∷ l) h i (p, q, r) =
    either (λ y. Ascends c y) (leb g x) (g ∷ (x ∷ l)) (x ∷ insert g l)
    (λ e. (h, i, (leb-true g x e, q, r)))
    (λ e. (p, q, insert_ascends g x l (omega (arith, leb-false g x e)) i r))

sort_used : (l : List ℕ) (k : ℕ) → used_by (sort l) k ≡ used_by l k
unfolding sort used_by
sort_used [] k = refl
sort_used (g ∷ l) k = insert_used g (sort l) k ∙ omega (arith, sort_used l k)

sort_length : (l : List ℕ) → length (sort l) ≡ length l
unfolding sort
sort_length [] = refl
sort_length (g ∷ l) = insert_length g (sort l) ∙ ap suc (sort_length l)

sort_ascends : (l : List ℕ) → AllGroups l → Ascends 0 (sort l)
unfolding sort
sort_ascends [] a = tt
sort_ascends (g ∷ l) (a, b) = insert_ascends g 0 (sort l) (omega arith) a (sort_ascends l b)

-- ---- a place for each kind held
record GroupAt (gs : List ℕ) (win : ℕ) : Type 0 where
  index : ℕ
  low : index < length gs
  holding : leb 1 (uses (get_or gs index 68) win) ≡ true

group_at : (gs : List ℕ) (win : ℕ) → 1 ≤ used_by gs win → GroupAt gs win
unfolding used_by
group_at [] win h = absurd (omega arith)
group_at (g ∷ gs) win h = go (λ i. group_at gs win i) (leb 1 (uses g win)) refl
  where
    go : (1 ≤ used_by gs win → GroupAt gs win) → (b : Bool) → leb 1 (uses g win) ≡ b → GroupAt (g ∷ gs) win
    go f true e = record { index = 0; low = omega arith; holding = e }
    go f false e =
        let q : uses g win < 1 = leb-false 1 (uses g win) e in
        let p = f (omega arith) in
        record { index = suc p.index; low = omega (arith, p.low); holding = p.holding }

record Place (pair : ℕ) (gs hs : List ℕ) (win : ℕ) : Type 0 where
  place : ℕ
  low : place ≤ length gs
  holding : holds pair (gs ++ hs) place win ≡ true

place_of : (pair : ℕ) (gs hs : List ℕ) (win : ℕ) → 1 ≤ at_kind pair 2 win + used_by gs win → Place pair gs hs win
unfolding holds
place_of pair gs hs win h = go (eqb pair win) refl
  where
    go : (b : Bool) → eqb pair win ≡ b → Place pair gs hs win
    go true e = record { place = 0; low = omega arith; holding = eq-eqb win pair (sym (eqb-true pair win e)) }
    go false e =
        let z : at_kind pair 2 win ≡ 0 = at_other pair 2 win (eqb-false pair win e) in
        let p = group_at gs win (omega arith) in
        record { place = suc p.index; low = p.low; holding = rw (get_or-append gs hs 68 p.index p.low) p.holding }

-- ---- complete hands
-- a reading of the tally w with m melds, won by the kind win
pub record Reads (w : List ℕ) (m win : ℕ) : Type 0 where
  pub reading : Reading
  pub reads : IsReading w m win reading

pub regular_reads : (w gs : List ℕ) (m pair win : ℕ) → length gs ≡ 4 - m → AllGroups gs → pair < 34 → ((k : ℕ) → get_or w k 0 ≡ at_kind pair 2 k + used_by gs k) →
    1 ≤ get_or w win 0 → Reads w m win
regular_reads w gs m pair win l a p t h =
    let cs = sort gs in
    let u : (k : ℕ) → get_or w k 0 ≡ at_kind pair 2 k + used_by cs k = λ k. omega (arith, t k, sort_used gs k) in
    let n : length cs ≡ 4 - m = sort_length gs ∙ l in
    let q = place_of pair cs (replicate m 68) win (omega (arith, u win)) in
    record {
      reading = regular_of pair (cs ++ replicate m 68) q.place;
      reads = regular (record {
        shape = refl;
        codes = cs;
        size = n;
        groups = refl;
        order = sort_ascends gs a;
        pair = p;
        tiles = u;
        place = omega (arith, q.low);
        holding = q.holding;
      });
    }

-- choices of a regular hand, to the end
pub reach_reads : (d w : List ℕ) (m win : ℕ) → length w ≡ 34 → Reach (state 0 0 (4 - m) 1) d w 34 0 → 1 ≤ get_or w win 0 → Reads w m win
unfolding g_of a_of b_of
reach_reads d w m win l r h =
    let b = built (4 - m) d w 34 0 (omega arith) (omega arith) r in
    let q : b.q ≡ 1 = omega (arith, b.one) in
    regular_reads w b.codes m b.pair win (omega (arith, b.size)) b.groups b.kind
    (λ k. go b q k (ltb k 34) refl) h
  where
    go : (b : Built (4 - m) 34 0 w) → b.q ≡ 1 → (k : ℕ) (c : Bool) → ltb k 34 ≡ c → get_or w k 0 ≡ at_kind b.pair 2 k + used_by b.codes k
    go b q k true e = rw q at (b.tiles k (ltb-true k 34 e))
    go b q k false e =
        let o : 34 ≤ k = ltb-false k 34 e in
        let z : get_or w k 0 ≡ 0 = get_or-eq_default w 0 {n = k} (omega arith) in
        omega (arith, z, out b q k o (eqb k 34) refl (eqb k 35) refl)
      where
        out : (b : Built (4 - m) 34 0 w) → b.q ≡ 1 → (k : ℕ) → 34 ≤ k → (c : Bool) → eqb k 34 ≡ c → (f : Bool) → eqb k 35 ≡ f
            → at_kind b.pair 2 k + used_by b.codes k ≡ 0
        out b q k o true e f g = let i : k ≡ 34 = eqb-true k 34 e in rw i (rw q at b.now)
        out b q k o false e true g = let i : k ≡ 35 = eqb-true k 35 g in rw i (rw q at b.soon)
        out b q k o false e false g = rw q at (b.later k (omega (arith, eqb-false k 34 e, eqb-false k 35 g)))
