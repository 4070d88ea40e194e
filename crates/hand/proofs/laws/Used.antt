-- Tests over the places that are used, as the definitions have them, by number.
use Rattle.std.specs.Prelude.{◌≡◌, refl, Bool, true, false, ◌&&◌, ◌||◌, not, cond, List, [], ◌∷◌, ℕ, zero, suc, ◌+◌, ◌*◌, ◌≤◌, ◌<◌, ltb, leb, eqb, length, get_or, take}
use Rattle.std.specs.List.{list_any, list_all}
use Rattle.std.proofs.Common.{sym, ap, ◌∙◌, arith, add-zero, take_all, length-take, ltb-true, ltb-false, lt-ltb, length-take-le, get_or-take}
use Rattle.std.proofs.lemmas.Bool.{leb-true, le-leb, false≢true}
use Rattle.std.proofs.lemmas.List.Folds.{list_any_more}
use Rattle.tiles.specs.Below.{any, sum, any_below, count_below}
use Rattle.tiles.proofs.laws.Below.{both_ways, and_true, any_at, any_of, all_any}
use Rattle.hand.specs.declared.Held.{Held}
use Rattle.hand.proofs.laws.Held.{meld_le}
use Rattle.hand.specs.Held.{some_meld, each_meld, others, in_others, meld_holds, in_melds}

-- the first n places
pub any_taken : (p : ℕ → Bool) (l : List ℕ) (n : ℕ) → n ≤ length l → list_any p (take n l) ≡ any n (λ i. p (get_or l i 0))
any_taken p l zero h = refl
any_taken p l (suc n) h =
    let k : suc n ≡ n + 1 = omega arith in
    ap (λ (i : ℕ). list_any p (take i l)) k ∙ list_any_more p l n 0 (omega arith) ∙ ap (λ (b : Bool). b || p (get_or l n 0)) (any_taken p l n (omega arith))

-- of k places those below m, which are n
any_used : (q : ℕ → Bool) (m n k : ℕ) → n ≤ m → n ≤ k → ((i : ℕ) → i < k → i < m → i < n) → any n q ≡ any k (λ i. ltb i m && q i)
any_used q m n k hm hk h =
    both_ways (any n q) (any k (λ i. ltb i m && q i))
    (λ e. let a = any_at q n e in any_of (λ i. ltb i m && q i) k a.0 (omega (arith, a.1)) (rw (lt-ltb a.0 m (omega (arith, a.1))) a.2))
    (λ e.
    let a = any_at (λ i. ltb i m && q i) k e in
    let b = and_true (ltb a.0 m) (q a.0) a.2 in
    any_of q n a.0 (h a.0 a.1 (ltb-true a.0 m b.0)) b.1)

-- the melds
pub some_used : (x : Held) (p : ℕ → Bool) → length x.melds ≡ 4 → list_any p (take x.m x.melds) ≡ some_meld x p
some_used x p l = go (ltb 4 x.m) refl
  where
    go : (b : Bool) → ltb 4 x.m ≡ b → list_any p (take x.m x.melds) ≡ some_meld x p
    go true e =
        let h : 4 < x.m = ltb-true 4 x.m e in
        ap (list_any p) (take_all x.m x.melds (omega arith) ∙ sym (take_all 4 x.melds (omega arith))) ∙ any_taken p x.melds 4 (omega arith)
        ∙ any_used (λ i. p (get_or x.melds i 0)) x.m 4 4 (omega arith) (omega arith) (λ i g f. g)
    go false e =
        let h : x.m ≤ 4 = ltb-false 4 x.m e in
        any_taken p x.melds x.m (omega arith) ∙ any_used (λ i. p (get_or x.melds i 0)) x.m x.m 4 (omega arith) h (λ i g f. f)

all_not : (p : ℕ → Bool) (l : List ℕ) → list_all p l ≡ not (list_any (λ i. not (p i)) l)
all_not p [] = refl
all_not p (k ∷ l) = go (p k) (all_not p l)
  where
    go : (b : Bool) → list_all p l ≡ not (list_any (λ i. not (p i)) l) → b && list_all p l ≡ not (not b || list_any (λ i. not (p i)) l)
    go true e = e
    go false e = refl

-- a place is past the melds where it is not below m
leb_not : (m i : ℕ) → leb m i ≡ not (ltb i m)
leb_not m i = go (leb m i) refl (ltb i m) refl
  where
    go : (a : Bool) → leb m i ≡ a → (b : Bool) → ltb i m ≡ b → a ≡ not b
    go true p true q = absurd (omega (arith, leb-true m i p, ltb-true i m q))
    go true p false q = refl
    go false p true q = refl
    go false p false q = absurd (false≢true (sym p ∙ le-leb m i (ltb-false i m q)))

fails : (m i : ℕ) (b : Bool) → ltb i m && not b ≡ not (leb m i || b)
fails m i b = rw (leb_not m i) (go (ltb i m) b)
  where
    go : (a c : Bool) → a && not c ≡ not (not a || c)
    go true c = refl
    go false c = refl

pub each_used : (x : Held) (p : ℕ → Bool) → length x.melds ≡ 4 → list_all p (take x.m x.melds) ≡ each_meld x p
each_used x p l =
    let e = λ (i : ℕ). fails x.m i (p (get_or x.melds i 0)) in
    let f : some_meld x (λ k. not (p k)) ≡ any 4 (λ i. not (leb x.m i || p (get_or x.melds i 0))) = rw (e 0, e 1, e 2, e 3) in
    all_not p (take x.m x.melds) ∙ ap not (some_used x (λ k. not (p k)) l ∙ f) ∙ sym (all_any (λ i. leb x.m i || p (get_or x.melds i 0)) 4)

-- how many have p, by what p is at each place
pub number_cong : (p q : ℕ → Bool) (n : ℕ) → ((i : ℕ) → i < n → p i ≡ q i) → count_below n p ≡ count_below n q
unfolding count_below
number_cong p q zero h = refl
number_cong p q (suc n) h = rw (h n (omega arith), number_cong p q n (λ i g. h i (omega arith)))

-- the concealed tiles: how many of a kind there are
pub others_used : (x : Held) (k : ℕ) → length x.concealed ≡ 13
    → count_below (length (take (others x) x.concealed)) (λ i. eqb (get_or (take (others x) x.concealed) i 0) k) ≡ in_others x k
unfolding in_others
others_used x k l =
    rw (length-take-le (others x) x.concealed (omega arith))
    (number_cong _ _ (others x) (λ i g. ap (λ (t : ℕ). eqb t k) (get_or-take (others x) x.concealed i 0 g)))

-- what is added up over the melds
pub sum_used : (f : ℕ → ℕ) (m k n : ℕ) → n ≤ m → n ≤ k → ((i : ℕ) → i < k → i < m → i < n) → sum n f ≡ sum k (λ i. cond (ltb i m) (f i) 0)
sum_used f m zero n hm hk h = let z : n ≡ 0 = omega arith in ap (λ (j : ℕ). sum j f) z
sum_used f m (suc k) n hm hk h =
    go (ltb k m) refl (λ l. sum_used f m k k (omega arith) (omega arith) (λ i g j. g)) (λ l. sum_used f m k n hm (omega arith) (λ i g j. h i (omega arith) j))
  where
    go : (b : Bool) → ltb k m ≡ b → (k < m → sum k f ≡ sum k (λ i. cond (ltb i m) (f i) 0))
        → (m ≤ k → sum n f ≡ sum k (λ i. cond (ltb i m) (f i) 0)) → sum n f ≡ sum k (λ i. cond (ltb i m) (f i) 0) + cond b (f k) 0
    go true e r q =
        let z : n ≡ suc k = omega (arith, h k (omega arith) (ltb-true k m e)) in
        ap (λ (j : ℕ). sum j f) z ∙ ap (λ (j : ℕ). j + f k) (r (ltb-true k m e))
    go false e r q = q (ltb-false k m e) ∙ sym (add-zero _)

pub melds_used : (x : Held) (k n : ℕ) → length x.melds ≡ 4 → n ≡ length (take x.m x.melds)
    → sum n (λ i. meld_holds (get_or x.melds i 0) k) ≡ in_melds x k
unfolding in_melds
melds_used x k n l e =
    let t = length-take x.m x.melds in
    sum_used (λ i. meld_holds (get_or x.melds i 0) k) x.m 4 n (omega (arith, t)) (omega (arith, t)) (λ i g h. omega (arith, t))

pub melds_most : (x : Held) (k n : ℕ) → sum n (λ i. meld_holds (get_or x.melds i 0) k) ≤ 4 * n
melds_most x k zero = omega arith
melds_most x k (suc n) = omega (arith, melds_most x k n, meld_le (get_or x.melds n 0) k)

-- a test over the concealed tiles
pub any_others : (x : Held) (p : ℕ → Bool) → length x.concealed ≡ 13
    → list_any p (take (others x) x.concealed) ≡ any_below (others x) (λ i. p (get_or x.concealed i 0))
unfolding any_below
any_others x p l = any_taken p x.concealed (others x) (omega arith)
