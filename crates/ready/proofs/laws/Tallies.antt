-- From the tiles held to their tallies and back: how many there are, what a wait is, how many are swapped.
use Rattle.std.specs.Prelude.{◌≡◌, refl, Bool, true, false, cond, List, ℕ, zero, suc, ◌+◌, ◌-◌, ◌*◌, ◌≤◌, ◌<◌, ltb, eqb, length, set}
use Rattle.std.proofs.Math.Path.{sym, ap}
use Rattle.std.proofs.Common.{◌∙◌, ⊎_elim, eq-or-lt_of_le, arith, ltb-true, ltb-false, length-set, get_or-set_same, get_or-set_other}
use Rattle.std.proofs.Math.ListN.{get_or}
use Rattle.tiles.specs.Below.{count_below, sum_below}
use Rattle.tiles.specs.Groups.{at_kind}
use Rattle.tiles.proofs.laws.Below.{cond_le}
use Rattle.tiles.specs.Tally.{tally_of, more}
use Rattle.tiles.proofs.laws.Tally.{length_tally, get_d_tally, tally_ext, get_d_more}
use Rattle.hand.specs.declared.Held.{Held}
use Rattle.hand.specs.Held.{meld_kind, meld_tile, meld_holds, in_melds, in_others, in_held}
use Rattle.reading.proofs.laws.Groups.{at_other}
use Rattle.waits.specs.Waits.{with_one, IsWait}
use Rattle.unfinished.specs.Unfinished.{held_refusal}
use Rattle.unfinished.proofs.laws.Sound.{clean_of, are_kinds, at_most_four}
use Rattle.ready_choices.specs.search.Tallies.{HandTally, WaitTally, ReadyTally, MeldsTally, swaps_of}
use Rattle.ready_choices.proofs.laws.Sums.{total_cong, total_add, total_none, total_at}
use Rattle.ready.specs.Ready.{IsReady, swaps}

-- ---- how many there are

-- n tiles that are kinds
number_kinds : (c : List ℕ) (n : ℕ) → ((i : ℕ) → i < n → get_or c i 0 ≤ 33) → sum_below 34 (λ k. count_below n (λ i. eqb (get_or c i 0) k)) ≡ n
unfolding count_below at_kind
number_kinds c zero h = total_none (λ k. 0) 34 (λ k l. refl)
number_kinds c (suc n) h =
    total_add (λ k. count_below n (λ i. eqb (get_or c i 0) k)) (at_kind (get_or c n 0) 1) 34
    ∙ omega (arith, number_kinds c n (λ i l. h i (omega arith)), total_at (get_or c n 0) 1 34 (omega (arith, h n (omega arith))))

at_few : (a c : ℕ) → sum_below 34 (at_kind a c) ≤ c
at_few a c = go (ltb a 34) refl
  where
    go : (b : Bool) → ltb a 34 ≡ b → sum_below 34 (at_kind a c) ≤ c
    go true e = omega (arith, total_at a c 34 (ltb-true a 34 e))
    go false e = let g = ltb-false a 34 e in omega (arith, total_none (at_kind a c) 34 (λ k l. at_other a c k (omega arith)))

-- a meld has four tiles at most
meld_few : (b : ℕ) → sum_below 34 (meld_holds b) ≤ 4
unfolding meld_holds
meld_few b = go (eqb (meld_kind b) 0) (eqb (meld_kind b) 1)
  where
    go : (p q : Bool) → sum_below 34 (λ k. cond p (at_kind (meld_tile b) 1 k + at_kind (meld_tile b + 1) 1 k + at_kind (meld_tile b + 2) 1 k)
        (cond q (at_kind (meld_tile b) 3 k) (at_kind (meld_tile b) 4 k))) ≤ 4
    go true q =
        let t = meld_tile b in
        omega (
          arith,
          total_add (λ k. at_kind t 1 k + at_kind (t + 1) 1 k) (at_kind (t + 2) 1) 34,
          total_add (at_kind t 1) (at_kind (t + 1) 1) 34,
          at_few t 1,
          at_few (t + 1) 1,
          at_few (t + 2) 1,
        )
    go false true = omega (arith, at_few (meld_tile b) 3)
    go false false = at_few (meld_tile b) 4

-- the meld at i where it is one of the m
abbrev one : Held → ℕ → ℕ → ℕ
one x i k = cond (ltb i x.m) (meld_holds (get_or x.melds i 0) k) 0

one_few : (x : Held) (i : ℕ) → sum_below 34 (one x i) ≤ cond (ltb i x.m) 4 0
one_few x i = go (ltb i x.m)
  where
    go : (b : Bool) → sum_below 34 (λ k. cond b (meld_holds (get_or x.melds i 0) k) 0) ≤ cond b 4 0
    go true = meld_few (get_or x.melds i 0)
    go false = omega (arith, total_none (λ k. 0) 34 (λ k l. refl))

melds_few : (x : Held) → sum_below 34 (in_melds x) ≤ 4 * x.m
unfolding in_melds
melds_few x =
    omega (
      arith,
      total_cong (in_melds x) (λ k. one x 0 k + one x 1 k + one x 2 k + one x 3 k) 34 (λ k l. omega arith),
      total_add (λ k. one x 0 k + one x 1 k + one x 2 k) (one x 3) 34,
      total_add (λ k. one x 0 k + one x 1 k) (one x 2) 34,
      total_add (one x 0) (one x 1) 34,
      few x.m (sum_below 34 (one x 0)) (sum_below 34 (one x 1)) (sum_below 34 (one x 2)) (sum_below 34 (one x 3))
          (one_few x 0) (one_few x 1) (one_few x 2) (one_few x 3),
    )
  where
    few : (m a b c d : ℕ) → a ≤ cond (ltb 0 m) 4 0 → b ≤ cond (ltb 1 m) 4 0 → c ≤ cond (ltb 2 m) 4 0 → d ≤ cond (ltb 3 m) 4 0 → a + b + c + d ≤ 4 * m
    few zero a b c d p q r s = omega arith
    few (suc zero) a b c d p q r s = omega arith
    few (suc (suc zero)) a b c d p q r s = omega arith
    few (suc (suc (suc zero))) a b c d p q r s = omega arith
    few (suc (suc (suc (suc m)))) a b c d p q r s =
        let four : (i : ℕ) → cond (ltb i (suc (suc (suc (suc m))))) 4 0 ≤ 4 =
        λ i. cond_le (ltb i (suc (suc (suc (suc m))))) 4 0 4 (omega arith) (omega arith) in
        omega (arith, four 0, four 1, four 2, four 3)

-- ---- tallies of what is equal kind by kind

pub tally_cong : (f g : ℕ → ℕ) → ((k : ℕ) → k < 34 → f k ≡ g k) → tally_of f ≡ tally_of g
tally_cong f g h = tally_ext (tally_of f) g (length_tally f) (λ k l. get_d_tally f k l ∙ h k l)

pub same_melds : (x z : Held) → z.m ≡ x.m → z.melds ≡ x.melds → (k : ℕ) → in_melds z k ≡ in_melds x k
unfolding in_melds
same_melds x z e f k = rw (e, f)

-- ---- the tiles held and their tallies

module _ (x : Held) where
  -- "when added", as a tally
  with_more : (k : ℕ) → with_one x k ≡ more (tally_of (in_others x)) k 1
  unfolding with_one more
  with_more k =
      let t = tally_of (in_others x) in
      let l = length_tally (in_others x) in
      sym
      (tally_ext (more t k 1) (λ j. in_others x j + at_kind k 1 j) (length-set t k (get_or t k 0 + 1) ∙ l)
      (λ j i. get_d_more t k 1 j (omega arith) ∙ ap (λ (n : ℕ). n + at_kind k 1 j) (get_d_tally (in_others x) j i)))

  held_at : (k : ℕ) → k < 34 → get_or (tally_of (in_others x)) k 0 + get_or (tally_of (in_melds x)) k 0 ≡ in_held x k
  unfolding in_held
  held_at k l = rw (get_d_tally (in_others x) k l, get_d_tally (in_melds x) k l)

  pub wait_tally : (k : ℕ) → IsWait x k → WaitTally (tally_of (in_others x)) (tally_of (in_melds x)) x.m k
  wait_tally k w = record { kind = w.kind; below = rw (held_at k w.kind) w.free; reading = w.reading; reads = rw (with_more k) at w.reads }

  pub tally_wait : (k : ℕ) → WaitTally (tally_of (in_others x)) (tally_of (in_melds x)) x.m k → IsWait x k
  tally_wait k w = record { kind = w.kind; free = rw (held_at k w.kind) at w.below; reading = w.reading; reads = rw (with_more k) w.reads }

  pub melds_tally : x.m ≤ 4 → MeldsTally (tally_of (in_melds x)) x.m
  melds_tally few = record {
    few = few;
    tiles = rw (total_cong (λ k. get_or (tally_of (in_melds x)) k 0) (in_melds x) 34 (λ k l. get_d_tally (in_melds x) k l)) (melds_few x);
  }

  module _ (few : x.m ≤ 4) (e : held_refusal x 0 ≡ 0) where
    pub hand_tally_lem : HandTally (tally_of (in_others x)) (tally_of (in_melds x)) x.m
    unfolding in_others
    hand_tally_lem =
        let c = clean_of x 0 e in
        let n = number_kinds x.concealed (13 - 3 * x.m) (are_kinds x 0 c) in
        record {
          kinds = length_tally (in_others x);
          tiles = omega (arith, n, total_cong (λ k. get_or (tally_of (in_others x)) k 0) (in_others x) 34 (λ k l. get_d_tally (in_others x) k l));
          four = λ k l. rw (held_at k l) (at_most_four x 0 c k l);
        }

    pub ready_tally : IsReady x → ReadyTally (tally_of (in_others x)) (tally_of (in_melds x)) x.m
    ready_tally r = record { hand = hand_tally_lem; kind = r.0; wait = wait_tally r.0 r.1 }

pub swaps_tally : (x z : Held) → swaps_of (tally_of (in_others x)) (tally_of (in_others z)) ≡ swaps x z
unfolding swaps swaps_of
swaps_tally x z =
    total_cong (λ k. get_or (tally_of (in_others x)) k 0 - get_or (tally_of (in_others z)) k 0) (λ k. in_others x k - in_others z k) 34
    (λ k l. rw (get_d_tally (in_others x) k l, get_d_tally (in_others z) k l))

-- ---- a tally filled kind by kind

pub filled_more : (f : ℕ → ℕ) (d : List ℕ) (k v : ℕ) → k < length d → v ≡ f k → ((j : ℕ) → j < k → get_or d j 0 ≡ f j) → (j : ℕ) → j < k + 1
    → get_or (set d k v) j 0 ≡ f j
filled_more f d k v l e h j g =
    ⊎_elim (λ (q : j ≡ k). rw (q, get_or-set_same d k v 0 l) e) (λ i. get_or-set_other d k j v 0 (omega arith) ∙ h j i) (eq-or-lt_of_le (omega arith))

-- what is held without what is concealed
module _ (x : Held) (t w : List ℕ) (et : t ≡ tally_of (in_others x)) (ew : w ≡ tally_of (in_held x)) where
  pub melds_left : (k : ℕ) → k < 34 → get_or w k 0 ≡ get_or t k 0 + in_melds x k
  unfolding in_held
  melds_left k l = rw (ew, et, get_d_tally (in_others x) k l, get_d_tally (in_held x) k l)

  pub melds_done : (d : List ℕ) (k : ℕ) → length d ≡ 34 → 34 ≤ k → ((j : ℕ) → j < k → get_or d j 0 ≡ get_or w j 0 - get_or t j 0) → d ≡ tally_of (in_melds x)
  melds_done d k l a h = tally_ext d (in_melds x) l (λ j g. omega (arith, h j (omega arith), melds_left j g))
