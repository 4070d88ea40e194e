-- The suits of groups: two readings of the same tiles have their pairs in one suit, and with the same pair their groups differ within one suit.
use Rattle.std.specs.Prelude.{ℕ, zero, suc, ◌+◌, ◌-◌, ◌*◌, ◌/◌, ◌%◌, ◌≤◌, ◌<◌, ◌≡◌, refl, Bool, true, false, cond, List, [], ◌∷◌, ◌⊎◌, ltb, eqb, length}
use Rattle.std.proofs.Common.{sym, ap, ◌∙◌, inl, inr, ⊎_elim, arith, lt-ltb, le-ltb, ltb-true, ltb-false, eqb-true, eq-eqb, ne_eqb}
use Rattle.std.proofs.lemmas.Bool.{eqb-false}
use Rattle.tiles.specs.Below.{sum}
use Rattle.tiles.specs.Groups.{is_run, is_group, at_kind, uses}
use Rattle.tiles.proofs.laws.Tally.{of_kind}
use Rattle.reading.specs.Reading.{used_by, Ascends}
use Rattle.reading.proofs.laws.Groups.{run_in, run_or, at_other}
use Rattle.tiles.proofs.laws.Below.{same_test}
use Rattle.tiles.proofs.laws.Sums.{sum_cong, sum_add, sum_at, sum_over}

-- the suit of a group; 3 is that of honours
unfoldable pub suit_of : ℕ → ℕ
suit_of c = cond (is_run c) (c / 9) ((c - 34) / 9)

pub suit_run : (c : ℕ) → c < 34 → suit_of c ≡ c / 9
unfolding suit_of
suit_run c h = rw (lt-ltb c 34 h)

pub suit_triplet : (c : ℕ) → 34 ≤ c → suit_of c ≡ (c - 34) / 9
unfolding suit_of
suit_triplet c h = rw (le-ltb c 34 h)

-- 1 for a group of the suit s
abbrev pub one : ℕ → ℕ → ℕ
one s c = cond (eqb (suit_of c) s) 1 0

-- how many groups are of the suit s
abbrev of_suit : ℕ → List ℕ → ℕ
of_suit s l = sum_over (one s) l

-- ---- tiles of a suit are three for each of its groups

-- of the nine kinds of a suit
pub nine : (a n s : ℕ) → sum 9 (λ i. at_kind a n (9 * s + i)) ≡ cond (eqb (a / 9) s) n 0
unfolding at_kind
nine a n s = go (eqb (a / 9) s) refl
  where
    go : (b : Bool) → eqb (a / 9) s ≡ b → sum 9 (λ i. cond (eqb a (9 * s + i)) n 0) ≡ cond b n 0
    go true e =
        let q = eqb-true (a / 9) s e in
        sum_cong (λ i. cond (eqb a (9 * s + i)) n 0) (λ i. cond (eqb (a % 9) i) n 0) 9
        (λ i l. rw (same_test a (9 * s + i) (a % 9) i (λ z. omega arith) (λ z. omega arith)))
        ∙ sum_at (a % 9) n 9 (omega arith)
    go false e =
        let q = eqb-false (a / 9) s e in
        sum_cong (λ i. cond (eqb a (9 * s + i)) n 0) (λ i. 0) 9 (λ i l. rw (ne_eqb a (9 * s + i) (λ z. q (omega arith))))

ones : (b : Bool) → cond b 1 0 + cond b 1 0 + cond b 1 0 ≡ 3 * cond b 1 0
ones true = refl
ones false = refl

threes : (b : Bool) → cond b 3 0 ≡ 3 * cond b 1 0
threes true = refl
threes false = refl

pub group_tiles : (c s : ℕ) → is_group c ≡ true → sum 9 (λ i. uses c (9 * s + i)) ≡ 3 * one s c
unfolding uses
group_tiles c s g =
    run_or c
    (λ l.
    let w = run_in c g l in
    let e1 : (c + 1) / 9 ≡ c / 9 = omega arith in
    let e2 : (c + 2) / 9 ≡ c / 9 = omega arith in
    rw (lt-ltb c 34 l, suit_run c l)
    (sum_add (λ i. at_kind c 1 (9 * s + i) + at_kind (c + 1) 1 (9 * s + i)) (λ i. at_kind (c + 2) 1 (9 * s + i)) 9
    ∙ ap (λ (x : ℕ). x + sum 9 (λ i. at_kind (c + 2) 1 (9 * s + i))) (sum_add (λ i. at_kind c 1 (9 * s + i)) (λ i. at_kind (c + 1) 1 (9 * s + i)) 9)
    ∙ rw (nine c 1 s, nine (c + 1) 1 s, nine (c + 2) 1 s, e1, e2) (ones (eqb (c / 9) s))))
    (λ l. rw (le-ltb c 34 l, suit_triplet c l) (nine (c - 34) 3 s ∙ threes (eqb ((c - 34) / 9) s)))

suit_tiles : (lo : ℕ) (l : List ℕ) (s : ℕ) → Ascends lo l → sum 9 (λ i. used_by l (9 * s + i)) ≡ 3 * of_suit s l
unfolding used_by sum_over
suit_tiles lo [] s o = refl
suit_tiles lo (c ∷ l) s o =
    sum_add (λ i. uses c (9 * s + i)) (λ i. used_by l (9 * s + i)) 9 ∙ omega (arith, group_tiles c s o.1, suit_tiles c l s o.2)

-- two pairs with groups that have the same tiles are of one suit
module _ (x y : ℕ) (a b : List ℕ) (oa : Ascends 0 a) (ob : Ascends 0 b) (same : (k : ℕ) → at_kind x 2 k + used_by a k ≡ at_kind y 2 k + used_by b k) where
  -- a pair of z and the groups l, in the suit s
  abbrev held : ℕ → ℕ → List ℕ → ℕ
  held s z l = sum 9 (λ i. at_kind z 2 (9 * s + i) + used_by l (9 * s + i))

  in_suit_lem : (s z : ℕ) (l : List ℕ) → Ascends 0 l → held s z l ≡ cond (eqb (z / 9) s) 2 0 + 3 * of_suit s l
  in_suit_lem s z l o =
      sum_add (λ i. at_kind z 2 (9 * s + i)) (λ i. used_by l (9 * s + i)) 9 ∙ rw (nine z 2 s, suit_tiles 0 l s o)

  pub pairs_alike : x / 9 ≡ y / 9
  pairs_alike = sym (go (eqb (y / 9) s) refl)
    where
      s : ℕ
      s = x / 9

      e : held s x a ≡ held s y b
      e = sum_cong (λ i. at_kind x 2 (9 * s + i) + used_by a (9 * s + i)) (λ i. at_kind y 2 (9 * s + i) + used_by b (9 * s + i)) 9 (λ i l. same (9 * s + i))

      go : (t : Bool) → eqb (y / 9) s ≡ t → y / 9 ≡ s
      go true t = eqb-true (y / 9) s t
      go false t =
          let p : held s x a ≡ 2 + 3 * of_suit s a = in_suit_lem s x a oa ∙ rw (eq-eqb s s refl) in
          let q : held s y b ≡ 0 + 3 * of_suit s b = in_suit_lem s y b ob ∙ rw t in
          absurd (omega (arith, e))

-- ---- tiles of a kind, by the runs that end at it and after it, and by its triplets

-- how many runs end at x
abbrev runs_to : List ℕ → ℕ → ℕ
runs_to l x = sum_over (λ c. at_kind (c + 2) 1 x) l

at_shift : (a j n k : ℕ) → at_kind (a + j) n (k + j) ≡ at_kind a n k
unfolding at_kind
at_shift a j n k = rw (same_test (a + j) (k + j) a k (λ e. omega arith) (λ e. omega arith))

pub three_at : (c k : ℕ) → 34 ≤ c → at_kind (c - 34) 3 k ≡ 3 * at_kind c 1 (34 + k)
unfolding at_kind
three_at c k l = rw (same_test c (34 + k) (c - 34) k (λ z. omega arith) (λ z. omega arith)) (threes (eqb (c - 34) k))

uses_counted : (c k : ℕ) → k < 34 → uses c k ≡ at_kind (c + 2) 1 (k + 2) + at_kind (c + 2) 1 (k + 1) + at_kind (c + 2) 1 k + 3 * at_kind c 1 (34 + k)
unfolding uses
uses_counted c k h =
    run_or c
    (λ l.
    let e : c + 1 + 1 ≡ c + 2 = omega arith in
    let b : at_kind (c + 2) 1 (k + 1) ≡ at_kind (c + 1) 1 k = ap (λ (x : ℕ). at_kind x 1 (k + 1)) (sym e) ∙ at_shift (c + 1) 1 1 k in
    rw (lt-ltb c 34 l) (omega (arith, at_shift c 2 1 k, b, at_other c 1 (34 + k) (λ z. omega arith))))
    (λ l.
    let none : (x : ℕ) → x < 36 → at_kind (c + 2) 1 x ≡ 0 = λ x g. at_other (c + 2) 1 x (λ z. omega arith) in
    rw (le-ltb c 34 l) (omega (arith, three_at c k l, none (k + 2) (omega arith), none (k + 1) (omega arith), none k (omega arith))))

used_counted : (l : List ℕ) (k : ℕ) → k < 34 → used_by l k ≡ runs_to l (k + 2) + runs_to l (k + 1) + runs_to l k + 3 * of_kind l (34 + k)
unfolding used_by sum_over of_kind
used_counted [] k h = refl
used_counted (c ∷ l) k h = omega (arith, uses_counted c k h, used_counted l k h)

runs_kind : (l : List ℕ) (k : ℕ) → runs_to l (k + 2) ≡ of_kind l k
unfolding sum_over of_kind
runs_kind [] k = refl
runs_kind (c ∷ l) k = omega (arith, at_shift c 2 1 k, runs_kind l k)

-- no run ends at a suit's 1 or 2
runs_none : (lo : ℕ) (l : List ℕ) (x : ℕ) → Ascends lo l → x % 9 < 2 → x < 36 → runs_to l x ≡ 0
unfolding sum_over
runs_none lo [] x o h g = refl
runs_none lo (c ∷ l) x o h g =
    let e = at_other (c + 2) 1 x (λ z. run_or c (λ k. omega (arith, run_in c o.1 k)) (λ k. omega arith)) in
    omega (arith, runs_none c l x o.2 h g)

-- ---- two lists of groups with the same tiles

suit_le : (l : List ℕ) (x : ℕ) → of_kind l x ≤ of_suit (suit_of x) l
unfolding sum_over of_kind at_kind
suit_le [] x = omega arith
suit_le (c ∷ l) x = omega (arith, go (eqb c x) refl, suit_le l x)
  where
    go : (b : Bool) → eqb c x ≡ b → cond b 1 0 ≤ one (suit_of x) c
    go true e = rw (eq-eqb (suit_of c) (suit_of x) (ap suit_of (eqb-true c x e))) (omega arith)
    go false e = omega arith

two_suits : (l : List ℕ) (s t : ℕ) → (s ≡ t → ⊥) → of_suit s l + of_suit t l ≤ length l
unfolding sum_over
two_suits [] s t d = omega arith
two_suits (c ∷ l) s t d = omega (arith, go (eqb (suit_of c) s) (eqb (suit_of c) t) refl refl, two_suits l s t d)
  where
    go : (a b : Bool) → eqb (suit_of c) s ≡ a → eqb (suit_of c) t ≡ b → cond a 1 0 + cond b 1 0 ≤ 1
    go true true p q = absurd (d (sym (eqb-true (suit_of c) s p) ∙ eqb-true (suit_of c) t q))
    go true false p q = omega arith
    go false true p q = omega arith
    go false false p q = omega arith

module _ (a b : List ℕ) (oa : Ascends 0 a) (ob : Ascends 0 b) (same : (k : ℕ) → used_by a k ≡ used_by b k) where
  same_suit : (s : ℕ) → of_suit s a ≡ of_suit s b
  same_suit s =
      let e = sum_cong (λ i. used_by a (9 * s + i)) (λ i. used_by b (9 * s + i)) 9 (λ i l. same (9 * s + i)) in
      omega (arith, suit_tiles 0 a s oa, suit_tiles 0 b s ob)

  -- as many runs end at x, and as many triplets are of the kind k
  abbrev SameRuns : ℕ → Type 0
  SameRuns x = runs_to a x ≡ runs_to b x

  abbrev SameTriplets : ℕ → Type 0
  SameTriplets k = of_kind a (34 + k) ≡ of_kind b (34 + k)

  -- the same runs and the same triplets of the suit s, from its numbers below i
  abbrev Agree : ℕ → ℕ → Type 0
  Agree s i = ((x : ℕ) → 9 * s ≤ x → x < 9 * s + i + 2 → SameRuns x) × ((j : ℕ) → j < i → SameTriplets (9 * s + j))

  -- three equal runs are three groups of their suit
  many : (s i : ℕ) → i < 9 → 9 * s + i < 34 → (l : List ℕ) → 3 ≤ runs_to l (9 * s + i + 2) → 3 ≤ of_suit s l
  many s i h g l t =
      let q : suit_of (9 * s + i) ≡ s = suit_run (9 * s + i) g ∙ (omega arith) in
      let z : of_kind l (9 * s + i) ≤ of_suit s l = rw q at (suit_le l (9 * s + i)) in
      omega (arith, runs_kind l (9 * s + i))

  agree_more : (s i : ℕ) → i < 9 → 9 * s + i < 34 → Agree s i → (3 ≤ of_suit s a) ⊎ Agree s (suc i)
  agree_more s i h g (r, t) = go (ltb (runs_to a (9 * s + i + 2)) 3) (ltb (runs_to b (9 * s + i + 2)) 3) refl refl
    where
      go : (x y : Bool) → ltb (runs_to a (9 * s + i + 2)) 3 ≡ x → ltb (runs_to b (9 * s + i + 2)) 3 ≡ y → (3 ≤ of_suit s a) ⊎ Agree s (suc i)
      go false y p q = inl (many s i h g a (ltb-false (runs_to a (9 * s + i + 2)) 3 p))
      go true false p q = inl (omega (arith, many s i h g b (ltb-false (runs_to b (9 * s + i + 2)) 3 q), same_suit s))
      go true true p q =
          let k : ℕ = 9 * s + i in
          let l1 = ltb-true (runs_to a (k + 2)) 3 p in
          let l2 = ltb-true (runs_to b (k + 2)) 3 q in
          let r1 = r (k + 1) (omega arith) (omega arith) in
          let r2 = r k (omega arith) (omega arith) in
          let ea = used_counted a k g in
          let eb = used_counted b k g in
          let e = same k in
          let x1 : SameRuns (k + 2) = omega arith in
          let x2 : SameTriplets k = omega arith in
          inr (λ x m n. next x m n x1 (ltb x (k + 2)) refl, λ j m. last j m x2 (ltb j i) refl)
        where
          next : (x : ℕ) → 9 * s ≤ x → x < 9 * s + suc i + 2 → SameRuns (9 * s + i + 2) → (z : Bool) → ltb x (9 * s + i + 2) ≡ z → SameRuns x
          next x m n e true w = r x m (ltb-true x (9 * s + i + 2) w)
          next x m n e false w = let v : x ≡ 9 * s + i + 2 = omega (arith, ltb-false x (9 * s + i + 2) w) in rw v e

          last : (j : ℕ) → j < suc i → SameTriplets (9 * s + i) → (z : Bool) → ltb j i ≡ z → SameTriplets (9 * s + j)
          last j m e true w = t j (ltb-true j i w)
          last j m e false w = let v : j ≡ i = omega (arith, ltb-false j i w) in rw v e

  agree : (s i : ℕ) → i ≤ 9 → 9 * s + i ≤ 34 → (3 ≤ of_suit s a) ⊎ Agree s i
  agree s zero h g =
      inr (λ x m n. runs_none 0 a x oa (omega arith) (omega arith) ∙ sym (runs_none 0 b x ob (omega arith) (omega arith)), λ j l. absurd (omega arith))
  agree s (suc i) h g = ⊎_elim (λ y. inl y) (λ r. agree_more s i (omega arith) (omega arith) r) (agree s i (omega arith) (omega arith))

  -- where they differ in a code, its suit has three groups
  differs : (x : ℕ) → x < 68 → (of_kind a x ≡ of_kind b x → ⊥) → 3 ≤ of_suit (suit_of x) a
  differs x h d =
      run_or x
      (λ l.
      rw (suit_run x l)
      (⊎_elim (λ y. y) (λ r. let e = r.0 (x + 2) (omega arith) (omega arith) in absurd (d (omega (arith, runs_kind a x, runs_kind b x))))
      (agree (x / 9) (suc (x % 9)) (omega arith) (omega arith))))
      (λ l.
      let q : 34 + (9 * ((x - 34) / 9) + (x - 34) % 9) ≡ x = omega arith in
      rw (suit_triplet x l)
      (⊎_elim (λ y. y) (λ r. absurd (d (rw q at (r.1 ((x - 34) % 9) (omega arith))))) (agree ((x - 34) / 9) (suc ((x - 34) % 9)) (omega arith) (omega arith))))

  -- at most four groups differ within one suit
  pub one_suit : length a ≤ 4 → (x y : ℕ) → x < 68 → y < 68 → (of_kind a x ≡ of_kind b x → ⊥) → (of_kind a y ≡ of_kind b y → ⊥) → suit_of x ≡ suit_of y
  one_suit few x y hx hy dx dy = go (eqb (suit_of x) (suit_of y)) refl
    where
      go : (t : Bool) → eqb (suit_of x) (suit_of y) ≡ t → suit_of x ≡ suit_of y
      go true e = eqb-true (suit_of x) (suit_of y) e
      go false e = absurd (omega (arith, differs x hx dx, differs y hy dy, two_suits a (suit_of x) (suit_of y) (eqb-false (suit_of x) (suit_of y) e)))

-- ---- a group that has a kind is of its suit

pub uses_suit : (c k : ℕ) → is_group c ≡ true → 1 ≤ uses c k → suit_of c ≡ k / 9
unfolding uses
uses_suit c k g h = go (eqb (suit_of c) (k / 9)) refl
  where
    none : (suit_of c ≡ k / 9 → ⊥) → uses c k ≡ 0
    none d =
        run_or c
        (λ l.
        let w = run_in c g l in
        let q = suit_run c l in
        let z : (j : ℕ) → j ≤ 2 → at_kind (c + j) 1 k ≡ 0 = λ j h. at_other (c + j) 1 k (λ e. d (omega arith)) in
        rw (lt-ltb c 34 l) (omega (arith, at_other c 1 k (λ e. d (omega arith)), z 1 (omega arith), z 2 (omega arith))))
        (λ l. let q = suit_triplet c l in rw (le-ltb c 34 l) (at_other (c - 34) 3 k (λ e. d (q ∙ ap (λ (z : ℕ). z / 9) e))))

    go : (t : Bool) → eqb (suit_of c) (k / 9) ≡ t → suit_of c ≡ k / 9
    go true e = eqb-true (suit_of c) (k / 9) e
    go false e = absurd (omega (arith, none (eqb-false (suit_of c) (k / 9) e)))
