-- A tally written out as tiles in order: atKind the start, one tile more, the next kind.
use Rattle.std.specs.Prelude.{◌≡◌, refl, Bool, false, cond, ◌⊎◌, List, ℕ, zero, suc, ◌+◌, ◌≤◌, ◌<◌, eqb, length, get_or, set, replicate}
use Rattle.std.proofs.Common.{ap, ◌∙◌, ⊎_elim, eq-or-lt_of_le, add-one, arith, ne_eqb, length-set, get_or-set_same, get_or-set_other}
use Rattle.std.proofs.Math.ListN.{get_or-eq_default}
use Rattle.tiles.specs.Below.{count_below, sum_below}
use Rattle.tiles.specs.Groups.{at_kind}
use Rattle.tiles.proofs.laws.Below.{number_more}
use Rattle.reading.proofs.laws.Groups.{at_same, at_other}
use Rattle.ready_choices.proofs.laws.Sums.{total_suc, total_zero, total_mono}
use Rattle.ready.specs.search.Written.{in_first, Written}

-- ---- how many places have a kind

number_cong : (p q : ℕ → Bool) (n : ℕ) → ((i : ℕ) → i < n → p i ≡ q i) → count_below n p ≡ count_below n q
unfolding count_below
number_cong p q zero h = refl
number_cong p q (suc n) h = rw (number_cong p q n (λ i l. h i (omega arith)), h n (omega arith))

number_false : (p : ℕ → Bool) (n : ℕ) → ((i : ℕ) → i < n → p i ≡ false) → count_below n p ≡ 0
unfolding count_below
number_false p zero h = refl
number_false p (suc n) h = rw (number_false p n (λ i l. h i (omega arith)), h n (omega arith))

-- one place more
in_first_more : (r : List ℕ) (i k q : ℕ) → i < length r → in_first (set r i k) (i + 1) q ≡ in_first r i q + at_kind k 1 q
unfolding at_kind
in_first_more r i k q h =
    number_more (λ p. eqb (get_or (set r i k) p 0) q) i
    ∙ omega (
      arith,
      number_cong (λ p. eqb (get_or (set r i k) p 0) q) (λ p. eqb (get_or r p 0) q) i (λ p l. ap (λ (a : ℕ). eqb a q) (get_or-set_other r i p k 0 (omega arith))),
      ap {B = ℕ} (λ (a : ℕ). cond (eqb a q) 1 0) (get_or-set_same r i k 0 h),
    )

-- ---- written so far

zeros : (n j : ℕ) → ◌≡◌ {A = ℕ} (get_or (replicate n 0) j 0) 0
zeros zero j = refl
zeros (suc n) zero = refl
zeros (suc n) (suc j) = zeros n j

pub written_none : (u : List ℕ) → Written u 0 0 0 (replicate 13 0)
unfolding count_below
written_none u = record {
  long = refl;
  many = omega (arith, total_zero (λ q. get_or u q 0));
  before = λ q l. absurd (omega arith);
  here = refl;
  kinds = λ p l. absurd (omega arith);
  top = λ p l. absurd (omega arith);
  order = λ p l. absurd (omega arith);
  zeros = λ p l. zeros 13 p;
}

module _ (u : List ℕ) (k j i : ℕ) (r : List ℕ) (w : Written u k j i r) where
  -- one tile of the kind
  pub written_more : k < 34 → i < 13 → Written u k (j + 1) (i + 1) (set r i k)
  written_more lk li =
      let l : i < length r = omega (arith, w.long) in
      let same = get_or-set_same r i k 0 l in
      let other : (p : ℕ) → p < i → get_or (set r i k) p 0 ≡ get_or r p 0 = λ p g. get_or-set_other r i p k 0 (omega arith) in
      record {
        long = length-set r i k ∙ w.long;
        many = omega (arith, w.many);
        before = λ q g. omega (arith, in_first_more r i k q l, at_other k 1 q (omega arith), w.before q g);
        here = omega (arith, in_first_more r i k k l, at_same k 1, w.here);
        kinds = λ p g. ⊎_elim (λ (e : p ≡ i). rw (e, same) lk) (λ h. rw (other p h) (w.kinds p h)) (last p g);
        top = λ p g. ⊎_elim (λ (e : p ≡ i). rw (e, same) (omega arith)) (λ h. rw (other p h) (w.top p h)) (last p g);
        order = λ p g.
            ⊎_elim (λ (e : p + 1 ≡ i). rw (e, same, other p (omega arith)) (w.top p (omega arith)))
            (λ h. rw (other (p + 1) h, other p (omega arith)) (w.order p h)) (last (p + 1) g);
        zeros = λ p g. get_or-set_other r i p k 0 (omega arith) ∙ w.zeros p (omega arith);
      }
    where
      last : (p : ℕ) → p < i + 1 → (p ≡ i) ⊎ (p < i)
      last p g = eq-or-lt_of_le (omega arith)

  -- the next kind
  pub written_next : j ≡ get_or u k 0 → Written u (k + 1) 0 i r
  written_next e =
      let s : k + 1 ≡ suc k = omega arith in
      record {
        long = w.long;
        many = rw s (omega (arith, total_suc k (λ q. get_or u q 0), w.many));
        before = λ q g. ⊎_elim (λ (z : q ≡ k). rw z (w.here ∙ e)) (λ l. w.before q l) (eq-or-lt_of_le (omega arith));
        here = number_false (λ p. eqb (get_or r p 0) (k + 1)) i (λ p g. ne_eqb (get_or r p 0) (k + 1) (λ z. omega (arith, w.top p g)));
        kinds = w.kinds;
        top = λ p g. omega (arith, w.top p g);
        order = w.order;
        zeros = w.zeros;
      }

  -- there is room for it
  pub written_room : k < 34 → j < get_or u k 0 → sum_below 34 (λ q. get_or u q 0) ≤ 13 → i < 13
  written_room l g h = omega (arith, w.many, total_suc k (λ q. get_or u q 0), total_mono (λ q. get_or u q 0) (suc k) 34 (omega arith))

  pub written_done : length u ≡ 34 → k ≤ 34 → 34 ≤ k → j ≤ get_or u k 0 → Written u 34 0 (sum_below 34 (λ q. get_or u q 0)) r
  written_done l a b g =
      let e : k ≡ 34 = omega arith in
      let z : j ≡ 0 = omega (arith, g, get_or-eq_default u 0 {n = k} (omega arith)) in
      let n : i ≡ sum_below 34 (λ q. get_or u q 0) = rw (← e) (omega (arith, w.many)) in
      rw (← n, ← z, ← e) w

-- ---- a tally of 13 tiles at most can be written

module _ (u : List ℕ) (h : sum_below 34 (λ q. get_or u q 0) ≤ 13) where
  kind_written : (k i : ℕ) (r : List ℕ) → k < 34 → Written u k 0 i r → (j : ℕ) → j ≤ get_or u k 0 → (i : ℕ) × (r : List ℕ) × Written u k j i r
  kind_written k i r l w zero g = (i, r, w)
  kind_written k i r l w (suc j) g =
      let (a, b, v) = kind_written k i r l w j (omega arith) in
      (a + 1, set b a k, rw (← add-one) (written_more u k j a b v l (written_room u k j a b v l (omega arith) h)))

  below_written : (k : ℕ) → k ≤ 34 → (i : ℕ) × (r : List ℕ) × Written u k 0 i r
  below_written zero l = (0, replicate 13 0, written_none u)
  below_written (suc k) l =
      let (a, b, v) = below_written k (omega arith) in
      let (i, r, w) = kind_written k a b (omega arith) v (get_or u k 0) (omega arith) in
      (i, r, rw (← add-one) (written_next u k (get_or u k 0) i r w refl))

  pub written_exists : (i : ℕ) × (r : List ℕ) × Written u 34 0 i r
  written_exists = below_written 34 (omega arith)
