-- Seven pairs and thirteen orphans and the choices that make them.
use Rattle.std.specs.Prelude.{◌≡◌, refl, List, ℕ, zero, suc, ◌+◌, ◌-◌, ◌*◌, ◌≤◌, ◌<◌, eqb, get_or}
use Rattle.std.proofs.Common.{sym, subst, ◌∙◌, ⊎_elim, eq-or-lt_of_le, le_of_suc-le-suc, arith}
use mathlib.Core.Bool.{Bool, true, false, ◌&&◌, ◌||◌, cond}
use borrow.Author.Tests.{lt-ltb, le-ltb, le-leb, eq-eqb, ne_eqb, leb-true, eqb-true}
use Rattle.std.proofs.Math.Dec.{leb}
use Rattle.tiles.specs.Below.{sum_below, all_below, count_below}
use Rattle.tiles.specs.Kinds.{is_yaochu}
use Rattle.tiles.proofs.laws.Below.{and_true, every_at, every_of, number_total}
use Rattle.reading.specs.Reading.{is_seven_pairs, is_orphans}
use Rattle.ready_choices.specs.search.Moves.{live, may, taken, next, fine}
use Rattle.ready_choices.proofs.laws.Sums.{total_suc, total_zero, total_mono, total_cong, total_add}
use Rattle.ready_choices.proofs.laws.Reach.{Reach, begin, move, fine_of, fine_begun}

-- ---- a choice in a state of these hands
module _ (k s e : ℕ) (l : 70 ≤ s) where
  live_special : live k s ≡ true
  unfolding live
  live_special = rw (le-ltb s 70 l)

  pub next_special : next s e ≡ s - e
  unfolding next
  next_special = rw (le-ltb s 70 l)

  pub taken_pairs : s < 78 → taken k s e ≡ 2 * e
  unfolding taken
  taken_pairs h = rw (le-ltb s 70 l, lt-ltb s 78 h)

  pub taken_orphans : 78 ≤ s → taken k s e ≡ cond (is_yaochu k) (1 + e) 0
  unfolding taken
  taken_orphans h = rw (le-ltb s 70 l, le-ltb s 78 h)

  may_pairs : s < 78 → e ≤ 1 → e ≤ s - 70 → may k s e ≡ true
  unfolding may
  may_pairs h a b = rw (le-ltb s 70 l, lt-ltb s 78 h, le-leb e 1 a, le-leb e (s - 70) b)

  may_orphans : 78 ≤ s → e ≤ 1 → e ≤ s - 78 → eqb e 0 || is_yaochu k ≡ true → may k s e ≡ true
  unfolding may
  may_orphans h a b c = rw (le-ltb s 70 l, le-ltb s 78 h, le-leb e 1 a, le-leb e (s - 78) b) c

  may_pairs_begun : s < 78 → may k s e ≡ true → (e ≤ 1) × (e ≤ s - 70)
  unfolding may
  may_pairs_begun h m =
      let f = and_true (leb e 1) (leb e (s - 70)) (rw (le-ltb s 70 l, lt-ltb s 78 h) at m) in
      (leb-true _ _ f.0, leb-true _ _ f.1)

  may_orphans_begun : 78 ≤ s → may k s e ≡ true → (e ≤ 1) × (e ≤ s - 78) × (eqb e 0 || is_yaochu k ≡ true)
  unfolding may
  may_orphans_begun h m =
      let f = and_true (leb e 1 && leb e (s - 78)) (eqb e 0 || is_yaochu k) (rw (le-ltb s 70 l, le-ltb s 78 h) at m) in
      let g = and_true (leb e 1) (leb e (s - 78)) f.0 in
      (leb-true _ _ g.0, leb-true _ _ g.1, f.1)

under : (x w d : ℕ) → w ≡ x → w + d ≤ 4 → x ≤ 4 - d
under x w d e h = omega arith

-- ---- seven pairs
abbrev paired : List ℕ → ℕ → Bool
paired w k = eqb (get_or w k 0) 0 || eqb (get_or w k 0) 2

abbrev held : List ℕ → ℕ → ℕ
held w k = cond (leb 1 (get_or w k 0)) 1 0

-- a kind held twice or not at all is one pair or none
pair_two : (n : ℕ) (a b : Bool) → eqb n 0 ≡ a → eqb n 2 ≡ b → a || b ≡ true → (n ≡ 2 * cond (leb 1 n) 1 0) × (cond (leb 1 n) 1 0 ≤ 1)
pair_two n true b e f o = let q : n ≡ 0 = eqb-true n 0 e in rw q (refl, omega arith)
pair_two n false true e f o = let q : n ≡ 2 = eqb-true n 2 f in rw q (refl, omega arith)
pair_two n false false e f o = absurd (mathlib.Core.Bool.false≢true o)

module _ (d w : List ℕ) (four : (k : ℕ) → k < 34 → get_or w k 0 + get_or d k 0 ≤ 4) (each : (k : ℕ) → k < 34 → paired w k ≡ true)
    (seven : sum_below 34 (held w) ≡ 7) where
  pairs_one : (k : ℕ) → k < 34 → Reach 77 d w k (77 - sum_below k (held w)) → Reach 77 d w (suc k) (77 - sum_below (suc k) (held w))
  pairs_one k l r =
      let t = total_suc k (held w) in
      let u = total_mono (held w) (suc k) 34 l in
      let (p, q) = pair_two (get_or w k 0) (eqb (get_or w k 0) 0) (eqb (get_or w k 0) 2) refl refl (each k l) in
      let s = 77 - sum_below k (held w) in
      let e = held w k in
      let lo : 70 ≤ s = omega arith in
      let hi : s < 78 = omega arith in
      let tk : get_or w k 0 ≡ taken k s e = p ∙ sym (taken_pairs k s e lo hi) in
      let nx : 77 - sum_below (suc k) (held w) ≡ next s e = omega (arith, next_special k s e lo) in
      let el : e < 10 = omega arith in
      let mp : e ≤ s - 70 = omega arith in
      move r e el
      (fine_of (4 - get_or d k 0) k s e (live_special k s e lo) (may_pairs k s e lo hi q mp) (under (taken k s e) (get_or w k 0) (get_or d k 0) tk (four k l)))
      tk nx

  pairs_all : (k : ℕ) → k ≤ 34 → Reach 77 d w k (77 - sum_below k (held w))
  pairs_all zero l = let q : 77 - sum_below 0 (held w) ≡ 77 = omega (arith, total_zero (held w)) in rw q begin
  pairs_all (suc k) l = pairs_one k l (pairs_all k (omega arith))

pub seven_reach : (d w : List ℕ) → ((k : ℕ) → k < 34 → get_or w k 0 + get_or d k 0 ≤ 4) → is_seven_pairs w ≡ true → Reach 77 d w 34 70
unfolding is_seven_pairs
seven_reach d w four e =
    let p = and_true (all_below 34 (paired w)) (eqb (count_below 34 (λ k. leb 1 (get_or w k 0))) 7) e in
    let n : sum_below 34 (held w) ≡ 7 = sym (number_total (λ k. leb 1 (get_or w k 0)) 34) ∙ eqb-true (count_below 34 (λ k. leb 1 (get_or w k 0))) 7 p.1 in
    let q : 77 - sum_below 34 (held w) ≡ 70 = omega arith in
    subst (λ (s : ℕ). Reach 77 d w 34 s) q (pairs_all d w four (λ k l. every_at (paired w) 34 k p.0 l) n 34 (omega arith))

record Pairs (k s : ℕ) (w : List ℕ) : Type 0 where
  low : 70 ≤ s
  high : s < 78
  count : sum_below k (held w) + s ≡ 77
  each : (j : ℕ) → j < k → paired w j ≡ true

two_pair : (n e : ℕ) → e ≤ 1 → n ≡ 2 * e → (eqb n 0 || eqb n 2 ≡ true) × (cond (leb 1 n) 1 0 ≡ e)
two_pair n zero h q = rw q (refl, refl)
two_pair n (suc zero) h q = rw q (refl, refl)
two_pair n (suc (suc e)) h q = absurd (omega arith)

pairs_more : (k s e r : ℕ) (d w : List ℕ) → Pairs k s w → fine (4 - get_or d k 0) k s e ≡ true → get_or w k 0 ≡ taken k s e → r ≡ next s e → Pairs (suc k) r w
pairs_more k s e r d w p f u n =
    let (a, b) = may_pairs_begun k s e p.low p.high (fine_begun (4 - get_or d k 0) k s e f).1 in
    let (x, y) = two_pair (get_or w k 0) e a (u ∙ taken_pairs k s e p.low p.high) in
    let m : r ≡ s - e = n ∙ next_special k s e p.low in
    let pl : 70 ≤ s = p.low in
    let ph : s < 78 = p.high in
    let pc : sum_below k (held w) + s ≡ 77 = p.count in
    let t = total_suc k (held w) in
    record {
      low = omega arith;
      high = omega arith;
      count = omega arith;
      each = λ j l. ⊎_elim (λ q. rw q x) (λ i. p.each j i) (eq-or-lt_of_le (le_of_suc-le-suc l));
    }

pairs_of : (d w : List ℕ) (k s : ℕ) → Reach 77 d w k s → Pairs k s w
pairs_of d w _ _ begin = record { low = omega arith; high = omega arith; count = omega (arith, total_zero (held w)); each = λ j l. absurd (omega arith) }
pairs_of d w _ _ (move {k} {s} {r} p e g f u n) = pairs_more k s e r d w (pairs_of d w k s p) f u n

pub reach_seven : (d w : List ℕ) → Reach 77 d w 34 70 → is_seven_pairs w ≡ true
unfolding is_seven_pairs
reach_seven d w r =
    let p = pairs_of d w 34 70 r in
    let n : count_below 34 (λ k. leb 1 (get_or w k 0)) ≡ 7 = number_total (λ k. leb 1 (get_or w k 0)) 34 ∙ omega (arith, p.count) in
    rw (every_of (paired w) 34 p.each, eq-eqb (count_below 34 (λ k. leb 1 (get_or w k 0))) 7 n)

-- ---- thirteen orphans
abbrev proper : List ℕ → ℕ → Bool
proper w k = cond (is_yaochu k) (eqb (get_or w k 0) 1 || eqb (get_or w k 0) 2) (eqb (get_or w k 0) 0)

abbrev twice : List ℕ → ℕ → ℕ
twice w k = cond (eqb (get_or w k 0) 2) 1 0

-- a yaochu kind held once or twice, any other not at all
orphan_two : (n : ℕ) (y a b : Bool) → eqb n 1 ≡ a → eqb n 2 ≡ b → cond y (a || b) (eqb n 0) ≡ true →
    (n ≡ cond y (1 + cond (eqb n 2) 1 0) 0) × (cond (eqb n 2) 1 0 ≤ 1) × (eqb (cond (eqb n 2) 1 0) 0 || y ≡ true)
orphan_two n true true b e f o = let q : n ≡ 1 = eqb-true n 1 e in rw q (refl, omega arith, refl)
orphan_two n true false true e f o = let q : n ≡ 2 = eqb-true n 2 f in rw q (refl, omega arith, refl)
orphan_two n true false false e f o = absurd (mathlib.Core.Bool.false≢true o)
orphan_two n false a b e f o = let q : n ≡ 0 = eqb-true n 0 o in rw q (refl, omega arith, refl)

module _ (d w : List ℕ) (four : (k : ℕ) → k < 34 → get_or w k 0 + get_or d k 0 ≤ 4) (each : (k : ℕ) → k < 34 → proper w k ≡ true)
    (one : sum_below 34 (twice w) ≡ 1) where
  orphans_one : (k : ℕ) → k < 34 → Reach 79 d w k (79 - sum_below k (twice w)) → Reach 79 d w (suc k) (79 - sum_below (suc k) (twice w))
  orphans_one k l r =
      let t = total_suc k (twice w) in
      let u = total_mono (twice w) (suc k) 34 l in
      let (p, q, y) = orphan_two (get_or w k 0) (is_yaochu k) (eqb (get_or w k 0) 1) (eqb (get_or w k 0) 2) refl refl (each k l) in
      let s = 79 - sum_below k (twice w) in
      let e = twice w k in
      let lo : 78 ≤ s = omega arith in
      let lw : 70 ≤ s = omega arith in
      let tk : get_or w k 0 ≡ taken k s e = p ∙ sym (taken_orphans k s e lw lo) in
      let nx : 79 - sum_below (suc k) (twice w) ≡ next s e = omega (arith, next_special k s e lw) in
      let el : e < 10 = omega arith in
      let mp : e ≤ s - 78 = omega arith in
      move r e el
      (fine_of (4 - get_or d k 0) k s e (live_special k s e lw) (may_orphans k s e lw lo q mp y) (under (taken k s e) (get_or w k 0) (get_or d k 0) tk (four k l)))
      tk nx

  orphans_all : (k : ℕ) → k ≤ 34 → Reach 79 d w k (79 - sum_below k (twice w))
  orphans_all zero l = let q : 79 - sum_below 0 (twice w) ≡ 79 = omega (arith, total_zero (twice w)) in rw q begin
  orphans_all (suc k) l = orphans_one k l (orphans_all k (omega arith))

pub orphans_reach : (d w : List ℕ) → ((k : ℕ) → k < 34 → get_or w k 0 + get_or d k 0 ≤ 4) → is_orphans w ≡ true → Reach 79 d w 34 78
unfolding is_orphans
orphans_reach d w four e =
    let p = and_true (all_below 34 (proper w)) (eqb (count_below 34 (λ k. eqb (get_or w k 0) 2)) 1) e in
    let n : sum_below 34 (twice w) ≡ 1 = sym (number_total (λ k. eqb (get_or w k 0) 2) 34) ∙ eqb-true (count_below 34 (λ k. eqb (get_or w k 0) 2)) 1 p.1 in
    let q : 79 - sum_below 34 (twice w) ≡ 78 = omega arith in
    subst (λ (s : ℕ). Reach 79 d w 34 s) q (orphans_all d w four (λ k l. every_at (proper w) 34 k p.0 l) n 34 (omega arith))

record Orphans (k s : ℕ) (w : List ℕ) : Type 0 where
  low : 78 ≤ s
  count : sum_below k (twice w) + s ≡ 79
  each : (j : ℕ) → j < k → proper w j ≡ true

two_orphan : (n e : ℕ) (y : Bool) → e ≤ 1 → eqb e 0 || y ≡ true → n ≡ cond y (1 + e) 0
    → (cond y (eqb n 1 || eqb n 2) (eqb n 0) ≡ true) × (cond (eqb n 2) 1 0 ≡ e)
two_orphan n zero true h o q = rw q (refl, refl)
two_orphan n (suc zero) true h o q = rw q (refl, refl)
two_orphan n (suc (suc e)) true h o q = absurd (omega arith)
two_orphan n zero false h o q = rw q (refl, refl)
two_orphan n (suc e) false h o q = absurd (mathlib.Core.Bool.false≢true (rw (ne_eqb (suc e) 0 (omega arith)) at o))

orphans_more : (k s e r : ℕ) (d w : List ℕ) → Orphans k s w → fine (4 - get_or d k 0) k s e ≡ true → get_or w k 0 ≡ taken k s e → r ≡ next s e → Orphans (suc k) r w
orphans_more k s e r d w p f u n =
    let pl : 78 ≤ s = p.low in
    let lw : 70 ≤ s = omega arith in
    let (a, b, c) = may_orphans_begun k s e lw pl (fine_begun (4 - get_or d k 0) k s e f).1 in
    let (x, y) = two_orphan (get_or w k 0) e (is_yaochu k) a c (u ∙ taken_orphans k s e lw pl) in
    let m : r ≡ s - e = n ∙ next_special k s e lw in
    let pc : sum_below k (twice w) + s ≡ 79 = p.count in
    let t = total_suc k (twice w) in
    record {
      low = omega arith;
      count = omega arith;
      each = λ j l. ⊎_elim (λ q. rw q x) (λ i. p.each j i) (eq-or-lt_of_le (le_of_suc-le-suc l));
    }

orphans_of : (d w : List ℕ) (k s : ℕ) → Reach 79 d w k s → Orphans k s w
orphans_of d w _ _ begin = record { low = omega arith; count = omega (arith, total_zero (twice w)); each = λ j l. absurd (omega arith) }
orphans_of d w _ _ (move {k} {s} {r} p e g f u n) = orphans_more k s e r d w (orphans_of d w k s p) f u n

pub reach_orphans : (d w : List ℕ) → Reach 79 d w 34 78 → is_orphans w ≡ true
unfolding is_orphans
reach_orphans d w r =
    let p = orphans_of d w 34 78 r in
    let n : count_below 34 (λ k. eqb (get_or w k 0) 2) ≡ 1 = number_total (λ k. eqb (get_or w k 0) 2) 34 ∙ omega (arith, p.count) in
    rw (every_of (proper w) 34 p.each, eq-eqb (count_below 34 (λ k. eqb (get_or w k 0) 2)) 1 n)

-- the end of each
pub seven_end : (d w : List ℕ) (s : ℕ) → Reach 77 d w 34 s → (70 ≤ s) × (s < 78)
seven_end d w s r = let p = pairs_of d w 34 s r in (p.low, p.high)

pub orphans_end : (d w : List ℕ) (s : ℕ) → Reach 79 d w 34 s → 78 ≤ s
orphans_end d w s r = (orphans_of d w 34 s r).low

-- how many tiles they have
pub seven_total : (w : List ℕ) → is_seven_pairs w ≡ true → sum_below 34 (λ k. get_or w k 0) ≡ 14
unfolding is_seven_pairs
seven_total w e =
    let p = and_true (all_below 34 (paired w)) (eqb (count_below 34 (λ k. leb 1 (get_or w k 0))) 7) e in
    let n : sum_below 34 (held w) ≡ 7 = sym (number_total (λ k. leb 1 (get_or w k 0)) 34) ∙ eqb-true (count_below 34 (λ k. leb 1 (get_or w k 0))) 7 p.1 in
    let c : sum_below 34 (λ k. get_or w k 0) ≡ sum_below 34 (λ k. held w k + held w k) =
    total_cong (λ k. get_or w k 0) (λ k. held w k + held w k) 34
    (λ k l. omega (arith, (pair_two (get_or w k 0) (eqb (get_or w k 0) 0) (eqb (get_or w k 0) 2) refl refl (every_at (paired w) 34 k p.0 l)).0)) in
    omega (arith, c, total_add (held w) (held w) 34)

abbrev yaochu : ℕ → ℕ
yaochu k = cond (is_yaochu k) 1 0

yaochu_total : sum_below 34 yaochu ≡ 13
unfolding sum_below
yaochu_total = refl

orphan_begun : (n c : ℕ) (y : Bool) → n ≡ cond y (1 + c) 0 → eqb c 0 || y ≡ true → n ≡ cond y 1 0 + c
orphan_begun n c true e o = e
orphan_begun n zero false e o = e
orphan_begun n (suc c) false e o = absurd (mathlib.Core.Bool.false≢true (rw (ne_eqb (suc c) 0 (omega arith)) at o))

pub orphans_total : (w : List ℕ) → is_orphans w ≡ true → sum_below 34 (λ k. get_or w k 0) ≡ 14
unfolding is_orphans
orphans_total w e =
    let p = and_true (all_below 34 (proper w)) (eqb (count_below 34 (λ k. eqb (get_or w k 0) 2)) 1) e in
    let n : sum_below 34 (twice w) ≡ 1 = sym (number_total (λ k. eqb (get_or w k 0) 2) 34) ∙ eqb-true (count_below 34 (λ k. eqb (get_or w k 0) 2)) 1 p.1 in
    let c : sum_below 34 (λ k. get_or w k 0) ≡ sum_below 34 (λ k. yaochu k + twice w k) =
    total_cong (λ k. get_or w k 0) (λ k. yaochu k + twice w k) 34
    (λ k l.
    let (a, b, f) = orphan_two (get_or w k 0) (is_yaochu k) (eqb (get_or w k 0) 1) (eqb (get_or w k 0) 2) refl refl (every_at (proper w) 34 k p.0 l) in
    orphan_begun (get_or w k 0) (twice w k) (is_yaochu k) a f) in
    omega (arith, c, total_add yaochu (twice w) 34, yaochu_total)
