-- A test of each tile goes by the sorts: each kind is of one, and a set of sorts stands for the kinds in them.
use Rattle.std.specs.Prelude.{◌≡◌, refl, List, [], ◌∷◌, map, ℕ, zero, suc, ◌<◌, length, get_or, eqb, ltb}
use Rattle.std.proofs.Common.{sym, ap, ◌∙◌, arith, lt-ltb, ltb-true, eqb-true, ne_eqb}
use mathlib.Core.Bool.{Bool, true, false, cond, not, ◌||◌, ◌&&◌}
use Rattle.std.specs.List.{list_all, zip}
use Rattle.tiles.specs.Below.{all, any, all_below}
use Rattle.tiles.proofs.laws.Below.{and_true, every_at, every_of, every_cong, any_at, both_ways}
use Rattle.yaku_tiles.specs.OfTiles.{only}
use Rattle.yaku_tiles.specs.search.Sorts.{sorts, any_of, sorts_in, within}

-- q at each of the kinds
abbrev pub all_of : List ℕ → (ℕ → Bool) → Bool
all_of [] q = true
all_of (k ∷ ks) q = q k && all_of ks q

-- the two tests say the same
abbrev pub alike : Bool → Bool → Bool
alike a b = cond a b (not b)

alike_eq : (a b : Bool) → alike a b ≡ true → a ≡ b
alike_eq true true e = refl
alike_eq true false e = absurd (mathlib.Core.Bool.false≢true e)
alike_eq false true e = absurd (mathlib.Core.Bool.false≢true e)
alike_eq false false e = refl

-- ---- the kinds of a sort

-- a tile that is there is one that is not absent
there : (n : ℕ) → ltb 0 n ≡ not (eqb n 0)
there zero = refl
there (suc n) = lt-ltb 0 (suc n) (omega arith) ∙ sym (ap not (ne_eqb (suc n) 0 (λ e. omega arith)))

-- one of the kinds is there, or not each is absent
any_absent : (z : ℕ → Bool) (b : Bool) (ks : List ℕ) → any_of b ks (λ k. not (z k)) ≡ (b || not (all_of ks z))
any_absent z true [] = refl
any_absent z false [] = refl
any_absent z b (k ∷ ks) = any_absent z (b || not (z k)) ks ∙ go b (z k) (all_of ks z)
  where
    go : (a x y : Bool) → (a || not x) || not y ≡ (a || not (x && y))
    go true x y = refl
    go false true y = refl
    go false false y = refl

any_cong : (f g : ℕ → Bool) (b : Bool) (ks : List ℕ) → ((k : ℕ) → f k ≡ g k) → any_of b ks f ≡ any_of b ks g
any_cong f g b [] h = refl
any_cong f g b (k ∷ ks) h = rw (h k) (any_cong f g (b || g k) ks h)

-- each kind is absent or has p, where p is one answer s for them all
one_answer : (z p : ℕ → Bool) (s : Bool) (ks : List ℕ) → all_of ks (λ k. alike (p k) s) ≡ true → all_of ks (λ k. z k || p k) ≡ (s || all_of ks z)
one_answer z p true [] e = refl
one_answer z p false [] e = refl
one_answer z p s (k ∷ ks) e =
    let both = and_true (alike (p k) s) (all_of ks (λ j. alike (p j) s)) e in
    rw (alike_eq (p k) s both.0, one_answer z p s ks both.1) (go (z k) s (all_of ks z))
  where
    go : (x y r : Bool) → (x || y) && (y || r) ≡ (y || x && r)
    go true true r = refl
    go true false r = refl
    go false true r = refl
    go false false r = refl

double : (b : Bool) → not (not b) ≡ b
double true = refl
double false = refl

-- a sort whose kinds all have one answer is in the set, or is not there
of_sort_lem : (t : List ℕ) (p : ℕ → Bool) (s : Bool) (ks : List ℕ) → all_of ks (λ k. alike (p k) s) ≡ true
    → all_of ks (λ k. eqb (get_or t k 0) 0 || p k) ≡ (s || not (any_of false ks (λ k. ltb 0 (get_or t k 0))))
of_sort_lem t p s ks e =
    one_answer (λ k. eqb (get_or t k 0) 0) p s ks e
    ∙ ap (λ (b : Bool). s || b)
    (sym
    (ap not (any_cong (λ k. ltb 0 (get_or t k 0)) (λ k. not (eqb (get_or t k 0) 0)) false ks (λ k. there (get_or t k 0))
    ∙ any_absent (λ k. eqb (get_or t k 0) 0) false ks)
    ∙ double (all_of ks (λ k. eqb (get_or t k 0) 0))))

-- ---- all kinds, sort by sort

all_kinds : (q : ℕ → Bool) (ks : List ℕ) → ((k : ℕ) → k < 34 → q k ≡ true) → all_of ks (λ k. ltb k 34) ≡ true → all_of ks q ≡ true
all_kinds q [] h e = refl
all_kinds q (k ∷ ks) h e =
    let both = and_true (ltb k 34) (all_of ks (λ j. ltb j 34)) e in
    rw (h k (ltb-true k 34 both.0)) (all_kinds q ks h both.1)

-- q at a kind that is one of them
at_kind_lem : (q : ℕ → Bool) (k : ℕ) (ks : List ℕ) → all_of ks q ≡ true → not (all_of ks (λ j. not (eqb j k))) ≡ true → q k ≡ true
at_kind_lem q k [] a e = absurd (mathlib.Core.Bool.false≢true e)
at_kind_lem q k (j ∷ ks) a e = pick (at_kind_lem q k ks (and_true (q j) (all_of ks q) a).1) (eqb j k) refl
  where
    pick : (not (all_of ks (λ i. not (eqb i k))) ≡ true → q k ≡ true) → (b : Bool) → eqb j k ≡ b → q k ≡ true
    pick later true f = ap q (sym (eqb-true j k f)) ∙ (and_true (q j) (all_of ks q) a).0
    pick later false f = later (rw f at e)

-- each kind of a sort is below 34, and each kind below 34 is of a sort
below : all_below 9 (λ j. all_of (get_or sorts j []) (λ k. ltb k 34)) ≡ true
unfolding all_below
below = refl

each : all_below 34 (λ k. any 9 (λ j. not (all_of (get_or sorts j []) (λ i. not (eqb i k))))) ≡ true
unfolding all_below
each = refl

by_sorts : (q : ℕ → Bool) → all_below 34 q ≡ all_below 9 (λ j. all_of (get_or sorts j []) q)
by_sorts q =
    both_ways (all_below 34 q) (all_below 9 (λ j. all_of (get_or sorts j []) q))
    (λ e.
    every_of (λ j. all_of (get_or sorts j []) q) 9
    (λ j l.
    all_kinds q (get_or sorts j []) (λ k h. every_at q 34 k e h)
    (every_at (λ i. all_of (get_or sorts i []) (λ k. ltb k 34)) 9 j below l)))
    (λ e.
    every_of q 34
    (λ k l.
    let s = any_at (λ j. not (all_of (get_or sorts j []) (λ i. not (eqb i k)))) 9
    (every_at (λ x. any 9 (λ j. not (all_of (get_or sorts j []) (λ i. not (eqb i x))))) 34 k each l) in
    at_kind_lem q k (get_or sorts s.0 []) (every_at (λ j. all_of (get_or sorts j []) q) 9 s.0 e s.1) s.2))

get_d_map : {A B : Type 0} (f : A → B) (d : A) (l : List A) (j : ℕ) → get_or (map f l) j (f d) ≡ f (get_or l j d)
get_d_map f d [] j = refl
get_d_map f d (x ∷ l) zero = refl
get_d_map f d (x ∷ l) (suc j) = get_d_map f d l j

-- the sorts whose first kind has p
abbrev set_of : (ℕ → Bool) → List Bool
set_of p = map (λ (ks : List ℕ). p (get_or ks 0 0)) sorts

-- THE SET: a test that has one answer for each sort
pub only_within : (t : List ℕ) (x : List Bool) (p : ℕ → Bool) → x ≡ sorts_in t
    → all_below 9 (λ j. all_of (get_or sorts j []) (λ k. alike (p k) (get_or (set_of p) j false))) ≡ true
    → within x (set_of p) ≡ only t p
unfolding only all_below
only_within t x p s e =
    ap (λ (l : List Bool). within l (set_of p)) s
    ∙ sym
    (by_sorts (λ k. eqb (get_or t k 0) 0 || p k)
    ∙ every_cong (λ j. all_of (get_or sorts j []) (λ k. eqb (get_or t k 0) 0 || p k)) (λ j. get_or (set_of p) j false || not (get_or (sorts_in t) j false)) 9
    (λ j l.
    of_sort_lem t p (get_or (set_of p) j false) (get_or sorts j []) (every_at (λ i. all_of (get_or sorts i []) (λ k. alike (p k) (get_or (set_of p) i false))) 9 j e l)
    ∙ ap (λ (b : Bool). get_or (set_of p) j false || not b) (sym (get_d_map (λ (ks : List ℕ). any_of false ks (λ k. ltb 0 (get_or t k 0))) [] sorts j))))

-- ---- a set, sort by sort

and_assoc : (a b c : Bool) → a && (b && c) ≡ (a && b) && c
and_assoc true b c = refl
and_assoc false b c = refl

and_true_left : (a : Bool) → a && true ≡ a
and_true_left true = refl
and_true_left false = refl

first_of : (n : ℕ) (p : ℕ → Bool) → p 0 && all n (λ k. p (suc k)) ≡ all (suc n) p
first_of zero p = and_true_left (p 0)
first_of (suc n) p = and_assoc (p 0) (all n (λ k. p (suc k))) (p (suc n)) ∙ rw (first_of n p)

-- a sort that is there is in the set
abbrev pub in_set : Bool × Bool → Bool
in_set p = p.1 || not p.0

pub all_in_set : (n : ℕ) (x set : List Bool) → length x ≡ n → length set ≡ n
    → list_all in_set (zip x set) ≡ all n (λ j. get_or set j false || not (get_or x j false))
all_in_set zero [] set e f = refl
all_in_set (suc n) [] set e f = absurd (omega (arith, e))
all_in_set zero (b ∷ x) set e f = absurd (omega (arith, e))
all_in_set (suc n) (b ∷ x) [] e f = absurd (omega (arith, f))
all_in_set (suc n) (b ∷ x) (s ∷ set) e f =
    rw (all_in_set n x set (omega (arith, e)) (omega (arith, f)))
    (first_of n (λ j. get_or (s ∷ set) j false || not (get_or (b ∷ x) j false)))
