-- Lists of groups in order: which of two comes first, by how many they hold of each code; and a place among equal groups.
use Rattle.std.specs.Prelude.{ℕ, zero, suc, ◌+◌, ◌≤◌, ◌<◌, ◌≡◌, refl, Bool, true, false, List, [], ◌∷◌, ◌++◌, ◌⊎◌, ltb, eqb, length, get_or, take}
use Rattle.std.proofs.Common.{sym, ap, subst, inl, inr, ⊎_elim, arith, ltb-true, ltb-false, eqb-true}
use Rattle.std.proofs.lemmas.Bool.{eqb-false}
use Rattle.tiles.specs.Groups.{is_group, at_kind}
use Rattle.tiles.proofs.laws.Tally.{of_kind}
use Rattle.reading.specs.Reading.{Ascends}
use Rattle.reading.specs.Order.{Lex}
use Rattle.reading.proofs.laws.Groups.{at_same, at_other, group_in}

-- ---- which of two lists comes first

-- of two lists of one length one comes first, or they are the same
pub lex_total : (a b : List ℕ) → length a ≡ length b → Lex a b ⊎ ((a ≡ b) ⊎ Lex b a)
lex_total [] [] e = inr (inl refl)
lex_total [] (y ∷ b) e = absurd (omega arith)
lex_total (x ∷ a) [] e = absurd (omega arith)
lex_total (x ∷ a) (y ∷ b) e = go (lex_total a b (omega arith)) (ltb x y) (ltb y x) refl refl
  where
    go : Lex a b ⊎ ((a ≡ b) ⊎ Lex b a) → (p q : Bool) → ltb x y ≡ p → ltb y x ≡ q → Lex (x ∷ a) (y ∷ b) ⊎ ((x ∷ a ≡ y ∷ b) ⊎ Lex (y ∷ b) (x ∷ a))
    go r true q w v = inl (inl (ltb-true x y w))
    go r false true w v = inr (inr (inl (ltb-true y x v)))
    go r false false w v =
        let z : x ≡ y = omega (arith, ltb-false x y w, ltb-false y x v) in
        ⊎_elim (λ l. inl (inr (z, l))) (⊎_elim (λ m. inr (inl (cc))) (λ l. inr (inr (inr (sym z, l))))) r

-- by their first parts, or by what follows equal ones
pub lex_parts : (a b c d : List ℕ) → length a ≡ length b → Lex (a ++ c) (b ++ d) → Lex a b ⊎ ((a ≡ b) × Lex c d)
lex_parts [] [] c d e l = inr (refl, l)
lex_parts [] (y ∷ b) c d e l = absurd (omega arith)
lex_parts (x ∷ a) [] c d e l = absurd (omega arith)
lex_parts (x ∷ a) (y ∷ b) c d e (inl l) = inl (inl l)
lex_parts (x ∷ a) (y ∷ b) c d e (inr (q, l)) =
    ⊎_elim (λ k. inl (inr (q, k))) (λ (k : (a ≡ b) × Lex c d). let z = k.0 in inr (cc, k.1)) (lex_parts a b c d (omega arith) l)

pub kind_below : (lo : ℕ) (l : List ℕ) (y : ℕ) → Ascends lo l → y < lo → of_kind l y ≡ 0
unfolding of_kind
kind_below lo [] y s h = refl
kind_below lo (c ∷ l) y s h = omega (arith, at_other c 1 y (λ e. omega (arith, s.0)), kind_below c l y s.2 (omega (arith, s.0)))

-- a code that is there is a group's
pub kind_group : (lo : ℕ) (l : List ℕ) (x : ℕ) → Ascends lo l → 1 ≤ of_kind l x → x < 68
unfolding of_kind
kind_group lo [] x s h = absurd (omega arith)
kind_group lo (c ∷ l) x s h = go (λ g. kind_group c l x s.2 g) (eqb c x) refl
  where
    go : (1 ≤ of_kind l x → x < 68) → (b : Bool) → eqb c x ≡ b → x < 68
    go r true e = omega (arith, eqb-true c x e, group_in c s.1)
    go r false e = r (omega (arith, at_other c 1 x (eqb-false c x e)))

-- what comes first holds more of the first code in which they differ
pub first_differs : (lo : ℕ) (a b : List ℕ) → Ascends lo a → Ascends lo b → Lex a b
    → (x : ℕ) × (of_kind b x < of_kind a x) × ((y : ℕ) → y < x → of_kind a y ≡ of_kind b y)
unfolding of_kind
first_differs lo [] b sa sb l = absurd l
first_differs lo (g ∷ a) [] sa sb l = absurd l
first_differs lo (g ∷ a) (k ∷ b) sa sb (inl l) = (
  g,
  omega (arith, at_same g 1, at_other k 1 g (λ e. omega arith), kind_below k b g sb.2 l),
  λ y h. omega (arith, kind_below g (g ∷ a) y (omega arith, sa.1, sa.2) h, kind_below k (k ∷ b) y (omega arith, sb.1, sb.2) (omega arith)),
)
first_differs lo (g ∷ a) (k ∷ b) sa sb (inr (e, l)) =
    let r = first_differs g a b sa.2 (subst (λ (x : ℕ). Ascends x b) (sym e) sb.2) l in
    let z : (y : ℕ) → at_kind g 1 y ≡ at_kind k 1 y = λ y. ap (λ (x : ℕ). at_kind x 1 y) e in
    (r.0, omega (arith, r.1, z r.0), λ y h. omega (arith, r.2 y h, z y))

-- lists in order that hold as many of each code are the same
pub same_groups : (a b : List ℕ) → Ascends 0 a → Ascends 0 b → length a ≡ length b → ((x : ℕ) → of_kind a x ≡ of_kind b x) → a ≡ b
same_groups a b sa sb e h =
    ⊎_elim (λ l. let r = first_differs 0 a b sa sb l in absurd (omega (arith, r.1, h r.0)))
    (⊎_elim (λ m. m) (λ l. let r = first_differs 0 b a sb sa l in absurd (omega (arith, r.1, h r.0)))) (lex_total a b e)

-- ---- places

pub ascends_at : (lo : ℕ) (l : List ℕ) (i j : ℕ) → Ascends lo l → i ≤ j → j < length l → (lo ≤ get_or l j 0) × (get_or l i 0 ≤ get_or l j 0)
ascends_at lo [] i j s h g = absurd (omega arith)
ascends_at lo (c ∷ l) zero zero s h g = (s.0, omega arith)
ascends_at lo (c ∷ l) zero (suc j) s h g = let r = ascends_at c l 0 j s.2 (omega arith) (omega arith) in (omega (arith, s.0, r.0), r.0)
ascends_at lo (c ∷ l) (suc i) zero s h g = absurd (omega arith)
ascends_at lo (c ∷ l) (suc i) (suc j) s h g = let r = ascends_at c l i j s.2 (omega arith) (omega arith) in (omega (arith, s.0, r.0), r.1)

pub group_at : (lo : ℕ) (l : List ℕ) (j : ℕ) → Ascends lo l → j < length l → is_group (get_or l j 0) ≡ true
group_at lo [] j a h = absurd (omega arith)
group_at lo (c ∷ l) zero a h = a.1
group_at lo (c ∷ l) (suc j) a h = group_at c l j a.2 (omega arith)

-- how many of a code stand before a place of it: more before a later one
pub rank_later : (l : List ℕ) (x i j : ℕ) → i < j → i < length l → get_or l i 0 ≡ x → of_kind (take i l) x < of_kind (take j l) x
unfolding of_kind
rank_later [] x i j h g e = absurd (omega arith)
rank_later (y ∷ l) x i zero h g e = absurd (omega arith)
rank_later (y ∷ l) x zero (suc j) h g e = let z = at_same y 1 in rw (← e) (omega arith)
rank_later (y ∷ l) x (suc i) (suc j) h g e = omega (arith, rank_later l x i j (omega arith) (omega arith) e)

-- a place of x with n of it before
abbrev Rank : List ℕ → ℕ → ℕ → Type 0
Rank l x n = (j : ℕ) × (j < length l) × (get_or l j 0 ≡ x) × (of_kind (take j l) x ≡ n)

-- there is one for each such number
pub rank_at : (l : List ℕ) (x n : ℕ) → n < of_kind l x → (j : ℕ) × (j < length l) × (get_or l j 0 ≡ x) × (of_kind (take j l) x ≡ n)
unfolding of_kind
rank_at [] x n h = absurd (omega arith)
rank_at (y ∷ l) x n h = go (λ m g. rank_at l x m g) (eqb y x) refl n h
  where
    go : ((m : ℕ) → m < of_kind l x → Rank l x m) → (b : Bool) → eqb y x ≡ b → (n : ℕ) → n < at_kind y 1 x + of_kind l x → Rank (y ∷ l) x n
    go r true e zero g = (0, omega arith, eqb-true y x e, refl)
    go r true e (suc n) g =
        let o : at_kind y 1 x ≡ 1 = rw (eqb-true y x e) (at_same x 1) in
        let s = r n (omega arith) in
        (suc s.0, omega (arith, s.1), s.2, omega (arith, s.3))
    go r false e n g =
        let o = at_other y 1 x (eqb-false y x e) in
        let s = r n (omega arith) in
        (suc s.0, omega (arith, s.1), s.2, omega (arith, s.3))
