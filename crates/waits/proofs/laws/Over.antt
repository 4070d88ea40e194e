-- A tile that makes a pair and groups is of a suit or an honour with tiles over threes, and no more than one other has some: the pair's.
use Rattle.std.specs.Prelude.{◌≡◌, refl, Bool, true, false, not, List, ltb, eqb, length, get_or, set}
use Rattle.std.proofs.Common.{sym, ap, ◌∙◌, add-one, arith, lt-ltb, le-ltb, ltb-true, ltb-false, eqb-true, eq-eqb, ne_eqb, take, drop, take_all, get_or-drop, length-drop, length-set, get_or-set_same, get_or-set_other}
use Rattle.std.specs.List.{sum as total, sum_by, count_by}
use Rattle.std.proofs.lemmas.List.Sums.{sum_by_more}
use Rattle.std.proofs.Math.Bool.{cond}
use Rattle.std.proofs.lemmas.Bool.{false≢true, eqb-false}
use Prim.Native.Nat.{ℕ, zero, suc, ◌+◌, ◌-◌, ◌*◌, ◌/◌, ◌%◌, ◌≤◌, ◌<◌}
use Rattle.tiles.specs.Below.{sum}
use Rattle.tiles.specs.Groups.{at_kind}
use Rattle.tiles.specs.Tally.{more}
use Rattle.tiles.proofs.laws.Tally.{get_d_more}
use Rattle.tiles.proofs.laws.Sums.{sum_cong, sum_add, sum_at}
use Rattle.tiles.proofs.laws.Below.{same_test, cond_le}
use Rattle.reading.specs.search.Pairs.{PairBeside}
use Rattle.reading.proofs.laws.Groups.{at_same, get_d_pos}
use Rattle.reading.proofs.laws.Suits.{nine}
use Rattle.reading.proofs.laws.Pairs.{suit_of_pair, suit_beside, honour_of_pair, honour_beside}
use Rattle.reading_splits.specs.search.SplitsInto.{splits_into}
use Rattle.reading_splits.proofs.laws.SplitsInto.{splits_exactly}
use Rattle.waits.specs.search.Over.{sort_of, of_sort, is_over, overs}

-- ---- a kind's suit or honour
pub sort_low : (k : ℕ) → k < 34 → sort_of k < 10
unfolding sort_of
sort_low k h = go (ltb k 27) refl
  where
    go : (b : Bool) → ltb k 27 ≡ b → cond b (k / 9) (k - 24) < 10
    go true e = omega (arith, ltb-true k 27 e)
    go false e = omega arith

-- of a suit: the same by the suit's number
sort_suit : (k c : ℕ) → k < 34 → c < 3 → eqb (sort_of k) c ≡ eqb (k / 9) c
unfolding sort_of
sort_suit k c h l = go (ltb k 27) refl
  where
    go : (b : Bool) → ltb k 27 ≡ b → eqb (cond b (k / 9) (k - 24)) c ≡ eqb (k / 9) c
    go true e = refl
    go false e = let u = ltb-false k 27 e in ne_eqb (k - 24) c (omega arith) ∙ sym (ne_eqb (k / 9) c (omega arith))

-- an honour: the same by its kind
sort_honour : (k c : ℕ) → 3 ≤ c → eqb (sort_of k) c ≡ eqb k (24 + c)
unfolding sort_of
sort_honour k c l = go (ltb k 27) refl
  where
    go : (b : Bool) → ltb k 27 ≡ b → eqb (cond b (k / 9) (k - 24)) c ≡ eqb k (24 + c)
    go true e = let u = ltb-true k 27 e in ne_eqb (k / 9) c (omega arith) ∙ sym (ne_eqb k (24 + c) (omega arith))
    go false e = let u = ltb-false k 27 e in same_test (k - 24) c k (24 + c) (λ q. omega arith) (λ q. omega arith)

-- suit or honour
either : {P : Type 0} (c : ℕ) → (c < 3 → P) → (3 ≤ c → P) → P
either {P} c f g = go (ltb c 3) refl
  where
    go : (b : Bool) → ltb c 3 ≡ b → P
    go true e = f (ltb-true c 3 e)
    go false e = g (ltb-false c 3 e)

of_suit_lem : (t : List ℕ) (c : ℕ) → c < 3 → of_sort t c ≡ sum 9 (λ i. get_or t (9 * c + i) 0)
unfolding of_sort
of_suit_lem t c l = rw (lt-ltb c 3 l)

of_honour : (t : List ℕ) (c : ℕ) → 3 ≤ c → of_sort t c ≡ get_or t (24 + c) 0
unfolding of_sort
of_honour t c l = rw (le-ltb c 3 l)

-- ---- a tile more
more_of : (t : List ℕ) (k c : ℕ) → length t ≡ 34 → k < 34 → c < 10 → of_sort (more t k 1) c ≡ of_sort t c + at_kind (sort_of k) 1 c
unfolding at_kind
more_of t k c l h o =
    either c
    (λ s.
    let f : ℕ → ℕ = λ i. get_or t (9 * c + i) 0 in
    let g : ℕ → ℕ = λ i. at_kind k 1 (9 * c + i) in
    let p : sum 9 (λ i. get_or (more t k 1) (9 * c + i) 0) ≡ sum 9 f + sum 9 g =
    sum_cong (λ i. get_or (more t k 1) (9 * c + i) 0) (λ i. f i + g i) 9 (λ i z. get_d_more t k 1 (9 * c + i) (omega arith)) ∙ sum_add f g 9 in
    of_suit_lem (more t k 1) c s ∙ p ∙ rw (of_suit_lem t c s, nine k 1 c, sort_suit k c h s))
    (λ s. of_honour (more t k 1) c s ∙ get_d_more t k 1 (24 + c) (omega arith) ∙ rw (of_honour t c s, sort_honour k c s))

-- ---- a pair beside groups
pair_of : (u : List ℕ) (p : ℕ) (gs : List ℕ) → PairBeside u p gs → p < 34 → (c : ℕ) → c < 10 → of_sort u c % 3 ≡ at_kind (sort_of p) 2 c
unfolding at_kind
pair_of u p gs b h c o =
    either c
    (λ s. rw (of_suit_lem u c s, sort_suit p c h s) (suit s (eqb (p / 9) c) refl))
    (λ s. rw (of_honour u c s, sort_honour p c s) (honour s (eqb p (24 + c)) refl))
  where
    suit : c < 3 → (x : Bool) → eqb (p / 9) c ≡ x → sum 9 (λ i. get_or u (9 * c + i) 0) % 3 ≡ cond x 2 0
    suit s true e = suit_of_pair b c (eqb-true (p / 9) c e)
    suit s false e = suit_beside b c (eqb-false (p / 9) c e)

    honour : 3 ≤ c → (x : Bool) → eqb p (24 + c) ≡ x → get_or u (24 + c) 0 % 3 ≡ cond x 2 0
    honour s true e = let q = eqb-true p (24 + c) e in rw (← q) (honour_of_pair b (omega arith))
    honour s false e = honour_beside b (24 + c) (omega arith) (eqb-false p (24 + c) e)

-- ---- sums
sum_le : (f g : ℕ → ℕ) (n : ℕ) → ((i : ℕ) → i < n → f i ≤ g i) → sum n f ≤ sum n g
sum_le f g zero h = omega arith
sum_le f g (suc n) h = omega (arith, sum_le f g n (λ i l. h i (omega arith)), h n (omega arith))

-- one tile more makes threes, or two over
one_less : (b : Bool) (x : ℕ) → (x + 1) % 3 ≡ cond b 2 0 → x % 3 ≡ 0 → ⊥
one_less true x q z = omega arith
one_less false x q z = omega arith

over_le : (a b : Bool) (x : ℕ) → (x + cond a 1 0) % 3 ≡ cond b 2 0 → cond (not (eqb (x % 3) 0)) 1 0 ≤ cond a 1 0 + cond b 1 0
over_le false false x q = rw (eq-eqb (x % 3) 0 (omega arith)) (omega arith)
over_le true b x q = omega (arith, cond_le (not (eqb (x % 3) 0)) 1 0 1 (omega arith) (omega arith), cond_le b 1 0 1 (omega arith) (omega arith))
over_le false true x q = cond_le (not (eqb (x % 3) 0)) 1 0 1 (omega arith) (omega arith)

long_more : (t : List ℕ) (k n : ℕ) → length t ≡ 34 → length (more t k n) ≡ 34
unfolding more
long_more t k n l = rw length-set l

-- ---- so a tile that makes them
module _ (t : List ℕ) (k p : ℕ) (gs : List ℕ) (l : length t ≡ 34) (h : k < 34) (o : p < 34) (b : PairBeside (more t k 1) p gs) where
  both : (c : ℕ) → c < 10 → (of_sort t c + at_kind (sort_of k) 1 c) % 3 ≡ at_kind (sort_of p) 2 c
  both c i = rw (← more_of t k c l h i) (pair_of (more t k 1) p gs b o c i)

  -- its own suit or honour has some over
  own_over : is_over t (sort_of k) ≡ true
  unfolding is_over at_kind
  own_over = rw (ne_eqb (of_sort t (sort_of k) % 3) 0 (one_less (eqb (sort_of p) (sort_of k)) (of_sort t (sort_of k)) (rw (at_same (sort_of k) 1) at (both
      (sort_of k) (sort_low k h)))))

  -- and no third has
  few_over : overs t 10 ≤ 2
  unfolding is_over at_kind
  few_over =
      let f : ℕ → ℕ = λ c. cond (is_over t c) 1 0 in
      let g : ℕ → ℕ = λ c. at_kind (sort_of k) 1 c + at_kind (sort_of p) 1 c in
      let q : sum 10 f ≤ sum 10 g = sum_le f g 10 (λ c i. over_le (eqb (sort_of k) c) (eqb (sort_of p) c) (of_sort t c) (both c i)) in
      omega (arith, sum_add (at_kind (sort_of k) 1) (at_kind (sort_of p) 1) 10, sum_at (sort_of k) 1 10 (sort_low k h), sum_at (sort_of p) 1 10 (sort_low p o))

-- where either fails, the tile makes no pair and groups
module _ (t : List ℕ) (k n : ℕ) (l : length t ≡ 34) (h : k < 34) where
  makes : splits_into (suc n) true (more t k 1) ≡ true → (is_over t (sort_of k) ≡ true) × (overs t 10 ≤ 2)
  makes e =
      let m : length (more t k 1) ≡ 34 = long_more t k 1 l in
      let s = (splits_exactly n (more t k 1) m).0 e in
      let b : PairBeside (more t k 1) s.pair s.groups = record { codes = s.codes; tiles = s.tiles } in
      let o : s.pair < 34 = rw m at (get_d_pos (more t k 1) s.pair (omega (arith, s.tiles s.pair, at_same s.pair 2))) in
      (own_over t k s.pair s.groups l h o b, few_over t k s.pair s.groups l h o b)

  pub none_over : is_over t (sort_of k) ≡ false → splits_into (suc n) true (more t k 1) ≡ false
  none_over q = go (splits_into (suc n) true (more t k 1)) refl
    where
      go : (b : Bool) → splits_into (suc n) true (more t k 1) ≡ b → splits_into (suc n) true (more t k 1) ≡ false
      go true e = absurd (false≢true (sym q ∙ (makes e).0))
      go false e = e

  pub many_over : 2 < overs t 10 → splits_into (suc n) true (more t k 1) ≡ false
  many_over q = go (splits_into (suc n) true (more t k 1)) refl
    where
      go : (b : Bool) → splits_into (suc n) true (more t k 1) ≡ b → splits_into (suc n) true (more t k 1) ≡ false
      go true e = absurd (omega (arith, (makes e).1))
      go false e = e

-- the sum over the first n of a list, by places
sum_first : {A : Type 0} (f : A → ℕ) (xs : List A) (d : A) (n : ℕ) → n ≤ length xs → sum_by f (take n xs) ≡ sum n (λ i. f (get_or xs i d))
sum_first f xs d zero h = refl
sum_first f xs d (suc n) h = rw (← add-one) (sum_by_more f xs n d (omega arith) ∙ rw (sum_first f xs d n (omega arith)) refl)

-- the tiles of n kinds from a on
total_part : (t : List ℕ) (a n : ℕ) → a + n ≤ length t → total (take n (drop a t)) ≡ sum n (λ i. get_or t (a + i) 0)
total_part t a n h =
    sum_first (λ x. x) (drop a t) 0 n (omega (arith, length-drop a t)) ∙ sum_cong (λ i. get_or (drop a t) i 0) (λ i. get_or t (a + i) 0) n (λ i g. get_or-drop a t i 0)

-- no suit has more than its nine kinds can
pub suit_room : (t : List ℕ) (s n : ℕ) → ((k : ℕ) → get_or t k 0 ≤ 13) → sum n (λ i. get_or t (9 * s + i) 0) ≤ 13 * n
suit_room t s zero h = omega arith
suit_room t s (suc n) h = omega (arith, suit_room t s n h, h (9 * s + n))

-- of a suit's: n is how many kinds it has
pub suit_done : (t : List ℕ) (s n : ℕ) → length t ≡ 34 → s < 3 → n ≡ 9 → total (take n (drop (9 * s) t)) ≡ of_sort t s
suit_done t s n l h e = rw e (total_part t (9 * s) 9 (omega arith) ∙ sym (of_suit_lem t s h))

pub suit_fits : (t : List ℕ) (s n : ℕ) → length t ≡ 34 → s < 3 → n ≡ 9 → ((k : ℕ) → get_or t k 0 ≤ 13) → total (take n (drop (9 * s) t)) < 256
suit_fits t s n l h e r = rw (e, total_part t (9 * s) 9 (omega arith)) (omega (arith, suit_room t s 9 r))

pub honour_done : (t : List ℕ) (c : ℕ) → 3 ≤ c → get_or t (24 + c) 0 ≡ of_sort t c
honour_done t c l = sym (of_honour t c l)

-- ---- the suits and honours that have some over, the first c of them told
pub record Told (t : List ℕ) (c : ℕ) (over : List Bool) : Type 0 where
  pub long : length over ≡ 10
  pub told : (j : ℕ) → j < c → get_or over j false ≡ is_over t j

pub one_told : (t : List ℕ) (c : ℕ) (over : List Bool) (b : Bool) → c < 10 → b ≡ is_over t c → Told t c over → Told t (c + 1) (set over c b)
one_told t c over b l e h = record { long = length-set over c b ∙ h.long; told = λ j i. at_place j i (eqb j c) refl }
  where
    at_place : (j : ℕ) → j < c + 1 → (x : Bool) → eqb j c ≡ x → get_or (set over c b) j false ≡ is_over t j
    at_place j i true z = let w : j ≡ c = eqb-true j c z in rw w (get_or-set_same over c b false (omega (arith, h.long)) ∙ e)
    at_place j i false z = let w : j ≡ c → ⊥ = eqb-false j c z in get_or-set_other over c j b false w ∙ h.told j (omega arith)

-- how many there are
pub all_counted : (t : List ℕ) (over : List Bool) → Told t 10 over → count_by (λ b. b) over ≡ overs t 10
all_counted t over h =
    ap (count_by (λ (b : Bool). b)) (sym (take_all 10 over (omega (arith, h.long)))) ∙ sum_first (λ (b : Bool). cond b 1 0) over false 10 (omega (arith, h.long))
    ∙ sum_cong (λ i. cond (get_or over i false) 1 0) (λ i. cond (is_over t i) 1 0) 10 (λ i g. ap (λ (b : Bool). cond b 1 0) (h.told i g))
