-- Which kinds can be the pair beside groups: a run and a triplet take three tiles of one suit, whose numbers add up to a multiple of 3. So the
-- pair's suit has two tiles over threes, their sum tells its number but for threes, and every other suit and honour has threes.
use Rattle.std.specs.Prelude.{ℕ, suc, ◌+◌, ◌-◌, ◌*◌, ◌/◌, ◌%◌, ◌≤◌, ◌<◌, ◌≡◌, Bool, List, [], ◌∷◌, length, get_or}
use Rattle.std.proofs.Math.Path.{refl}
use Rattle.std.proofs.Common.{ap, ◌∙◌, arith}
use Rattle.std.proofs.Math.Bool.{true, false, cond}
use borrow.Author.Tests.{lt-ltb, le-ltb, eqb-true, eqb-false, eq-eqb, ne_eqb}
use Rattle.std.proofs.Math.Dec.{eqb}
use Rattle.tiles.specs.Below.{all_below, sum}
use Rattle.tiles.specs.Groups.{is_group, at_kind, uses}
use Rattle.tiles.proofs.laws.Below.{every_at, same_test}
use Rattle.tiles.proofs.laws.Sums.{sum_cong, sum_add}
use Rattle.reading.specs.All.{Each, none, also}
use Rattle.reading.specs.Reading.{used_by, Ascends}
use Rattle.reading.specs.search.Pairs.{PairBeside, Among, OnlyPairs}
use Rattle.reading.specs.search.Readings.{less, splits}
use Rattle.reading.proofs.laws.Groups.{run_in, run_or, at_same, at_other, less_at, less_long}
use Rattle.reading.proofs.laws.Splits.{Splits, splits_sound}
use Rattle.reading.proofs.laws.Suits.{nine, three_at, group_tiles}
pub use Rattle.reading.specs.search.Pairs.{weighed}

-- ---- weights

pub weighed_cong : (f g : ℕ → ℕ) → ((i : ℕ) → i < 9 → f i ≡ g i) → weighed f ≡ weighed g
weighed_cong f g h = sum_cong (λ i. sum (suc i) f) (λ i. sum (suc i) g) 9 (λ i l. sum_cong f g (suc i) (λ j m. h j (omega arith)))

weighed_add : (f g : ℕ → ℕ) → weighed (λ i. f i + g i) ≡ weighed f + weighed g
weighed_add f g =
    sum_cong (λ i. sum (suc i) (λ j. f j + g j)) (λ i. sum (suc i) f + sum (suc i) g) 9 (λ i l. sum_add f g (suc i))
    ∙ sum_add (λ i. sum (suc i) f) (λ i. sum (suc i) g) 9

-- n tiles of a kind, among the nine of a suit
module _ (n : ℕ) (all : all_below 9 (λ r. eqb (weighed (at_kind r n)) (n * (9 - r))) ≡ true) (a s : ℕ) where
  weight : weighed (λ i. at_kind a n (9 * s + i)) ≡ cond (eqb (a / 9) s) (n * (9 - a % 9)) 0
  unfolding at_kind
  weight = go (eqb (a / 9) s) refl
    where
      go : (b : Bool) → eqb (a / 9) s ≡ b → weighed (λ i. cond (eqb a (9 * s + i)) n 0) ≡ cond b (n * (9 - a % 9)) 0
      go true e =
          let q = eqb-true (a / 9) s e in
          weighed_cong (λ i. cond (eqb a (9 * s + i)) n 0) (at_kind (a % 9) n)
          (λ i l. rw (same_test a (9 * s + i) (a % 9) i (λ z. omega arith) (λ z. omega arith)))
          ∙ eqb-true _ _ (every_at (λ r. eqb (weighed (at_kind r n)) (n * (9 - r))) 9 (a % 9) all (omega arith))
      go false e =
          let q = eqb-false (a / 9) s e in
          weighed_cong (λ i. cond (eqb a (9 * s + i)) n 0) (λ i. 0) (λ i l. rw (ne_eqb a (9 * s + i) (λ z. q (omega arith))))

one_each : all_below 9 (λ r. eqb (weighed (at_kind r 1)) (1 * (9 - r))) ≡ true
unfolding all_below at_kind
one_each = refl

two_each : all_below 9 (λ r. eqb (weighed (at_kind r 2)) (2 * (9 - r))) ≡ true
unfolding all_below at_kind
two_each = refl

three_each : all_below 9 (λ r. eqb (weighed (at_kind r 3)) (3 * (9 - r))) ≡ true
unfolding all_below at_kind
three_each = refl

-- ---- groups weigh threes
run_weight : (b : Bool) (x y z : ℕ) → (x + y + z) % 3 ≡ 0 → (cond b x 0 + cond b y 0 + cond b z 0) % 3 ≡ 0
run_weight true x y z h = h
run_weight false x y z h = refl

triplet_weight : (b : Bool) (x : ℕ) → cond b (3 * x) 0 % 3 ≡ 0
triplet_weight true x = omega arith
triplet_weight false x = refl

group_weight : (c s : ℕ) → is_group c ≡ true → weighed (λ i. uses c (9 * s + i)) % 3 ≡ 0
unfolding uses
group_weight c s g =
    run_or c
    (λ l.
    let w = run_in c g l in
    let e1 : (c + 1) / 9 ≡ c / 9 = omega arith in
    let e2 : (c + 2) / 9 ≡ c / 9 = omega arith in
    let f : ℕ → ℕ → ℕ = λ j i. at_kind (c + j) 1 (9 * s + i) in
    let p : weighed (λ i. at_kind c 1 (9 * s + i) + f 1 i + f 2 i) ≡ weighed (λ i. at_kind c 1 (9 * s + i)) + weighed (f 1) + weighed (f 2) =
    weighed_add (λ i. at_kind c 1 (9 * s + i) + f 1 i) (f 2) ∙ ap (λ (x : ℕ). x + weighed (f 2)) (weighed_add (λ i. at_kind c 1 (9 * s + i)) (f 1)) in
    rw (lt-ltb c 34 l, p, weight 1 one_each c s, weight 1 one_each (c + 1) s, weight 1 one_each (c + 2) s, e1, e2)
    (run_weight (eqb (c / 9) s) _ _ _ (omega arith)))
    (λ l. rw (le-ltb c 34 l, weight 3 three_each (c - 34) s) (triplet_weight (eqb ((c - 34) / 9) s) (9 - (c - 34) % 9)))

-- ---- groups have threes of each suit and of each honour
abbrev Groups : List ℕ → Type 0
Groups l = Each (λ g. is_group g ≡ true) l

suit_threes : (l : List ℕ) (s : ℕ) → Groups l → sum 9 (λ i. used_by l (9 * s + i)) % 3 ≡ 0
unfolding used_by
suit_threes [] s none = refl
suit_threes (c ∷ l) s (also g o) =
    let e = sum_add (λ i. uses c (9 * s + i)) (λ i. used_by l (9 * s + i)) 9 in
    rw e (omega (arith, group_tiles c s g, suit_threes l s o))

weight_threes : (l : List ℕ) (s : ℕ) → Groups l → weighed (λ i. used_by l (9 * s + i)) % 3 ≡ 0
unfolding used_by
weight_threes [] s none = refl
weight_threes (c ∷ l) s (also g o) =
    let e = weighed_add (λ i. uses c (9 * s + i)) (λ i. used_by l (9 * s + i)) in
    rw e (omega (arith, group_weight c s g, weight_threes l s o))

honour_uses : (c k : ℕ) → is_group c ≡ true → 27 ≤ k → uses c k % 3 ≡ 0
unfolding uses
honour_uses c k g h =
    run_or c
    (λ l.
    let w = run_in c g l in
    rw (lt-ltb c 34 l, at_other c 1 k (λ z. omega arith), at_other (c + 1) 1 k (λ z. omega arith), at_other (c + 2) 1 k (λ z. omega arith)))
    (λ l. rw (le-ltb c 34 l) (omega (arith, three_at c k l)))

honour_threes : (l : List ℕ) (k : ℕ) → Groups l → 27 ≤ k → used_by l k % 3 ≡ 0
unfolding used_by
honour_threes [] k none h = refl
honour_threes (c ∷ l) k (also g o) h = omega (arith, honour_uses c k g h, honour_threes l k o h)

-- ---- a pair beside groups
module _ {t : List ℕ} {k : ℕ} {gs : List ℕ} (p : PairBeside t k gs) where
  -- its suit has two tiles over threes, and their weight is the pair's number but for threes; another suit has threes
  suit_sum : (s : ℕ) → sum 9 (λ i. get_or t (9 * s + i) 0) % 3 ≡ cond (eqb (k / 9) s) 2 0
  suit_sum s = go (eqb (k / 9) s) (nine k 2 s)
    where
      e : sum 9 (λ i. get_or t (9 * s + i) 0) ≡ sum 9 (λ i. at_kind k 2 (9 * s + i)) + sum 9 (λ i. used_by gs (9 * s + i))
      e = sum_cong (λ i. get_or t (9 * s + i) 0) (λ i. at_kind k 2 (9 * s + i) + used_by gs (9 * s + i)) 9 (λ i h. p.tiles (9 * s + i))
          ∙ sum_add (λ i. at_kind k 2 (9 * s + i)) (λ i. used_by gs (9 * s + i)) 9

      go : (b : Bool) → sum 9 (λ i. at_kind k 2 (9 * s + i)) ≡ cond b 2 0 → sum 9 (λ i. get_or t (9 * s + i) 0) % 3 ≡ cond b 2 0
      go true h = rw (e, h) (omega (arith, suit_threes gs s p.codes))
      go false h = rw (e, h) (omega (arith, suit_threes gs s p.codes))

  pub suit_of_pair : (s : ℕ) → k / 9 ≡ s → sum 9 (λ i. get_or t (9 * s + i) 0) % 3 ≡ 2
  suit_of_pair s e = suit_sum s ∙ rw (eq-eqb (k / 9) s e)

  pub suit_beside : (s : ℕ) → (k / 9 ≡ s → ⊥) → sum 9 (λ i. get_or t (9 * s + i) 0) % 3 ≡ 0
  suit_beside s e = suit_sum s ∙ rw (ne_eqb (k / 9) s e)

  pub weight_of_pair : (s : ℕ) → k / 9 ≡ s → weighed (λ i. get_or t (9 * s + i) 0) % 3 ≡ k % 3
  weight_of_pair s q =
      let e : weighed (λ i. get_or t (9 * s + i) 0) ≡ weighed (λ i. at_kind k 2 (9 * s + i)) + weighed (λ i. used_by gs (9 * s + i)) =
      weighed_cong (λ i. get_or t (9 * s + i) 0) (λ i. at_kind k 2 (9 * s + i) + used_by gs (9 * s + i)) (λ i h. p.tiles (9 * s + i))
      ∙ weighed_add (λ i. at_kind k 2 (9 * s + i)) (λ i. used_by gs (9 * s + i)) in
      let w : weighed (λ i. at_kind k 2 (9 * s + i)) ≡ 2 * (9 - k % 9) = weight 2 two_each k s ∙ rw (eq-eqb (k / 9) s q) in
      rw (e, w) (omega (arith, weight_threes gs s p.codes))

  -- an honour has two tiles over threes, any other honour threes
  pub honour_of_pair : 27 ≤ k → get_or t k 0 % 3 ≡ 2
  honour_of_pair h = omega (arith, p.tiles k, at_same k 2, honour_threes gs k p.codes h)

  pub honour_beside : (j : ℕ) → 27 ≤ j → (k ≡ j → ⊥) → get_or t j 0 % 3 ≡ 0
  honour_beside j h d = omega (arith, p.tiles j, at_other k 2 j d, honour_threes gs j p.codes h)

-- ---- splittings beside a pair
ascends_groups : (lo : ℕ) (l : List ℕ) → Ascends lo l → Groups l
ascends_groups lo [] o = none
ascends_groups lo (c ∷ l) o = also o.1 (ascends_groups c l o.2)

-- a list of which no element can be is empty
none_in : (P : List ℕ → Type 0) (l : List (List ℕ)) → ((gs : List ℕ) → P gs → ⊥) → Each P l → l ≡ []
none_in P [] h e = refl
none_in P (x ∷ l) h (also p e) = absurd (h x p)

-- a kind outside those that can be the pair leaves no splitting
pub no_splits : (t : List ℕ) (first last k : ℕ) → length t ≡ 34 → OnlyPairs t first last → (Among first last k → ⊥) → 2 ≤ get_or t k 0 →
    (n : ℕ) → splits n 68 0 (less t k 2) ≡ []
no_splits t first last k long only out two n =
    none_in (Splits 0 (less t k 2) n) (splits n 68 0 (less t k 2))
    (λ gs s.
    out
    (only k gs
    (record {
      codes = ascends_groups 0 gs s.order;
      tiles = λ j. less_at t k 2 (omega arith) two j ∙ ap (λ (x : ℕ). at_kind k 2 j + x) (s.tiles j);
    })))
    (splits_sound n 68 0 (less t k 2) (less_long t k 2 long))
