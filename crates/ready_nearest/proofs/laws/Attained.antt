-- There is a nearest ready tally: at every kind a best choice can be made.
use Rattle.std.specs.Prelude.{◌≡◌, Bool, List, ltb, leb, eqb, length, replicate}
use Rattle.std.proofs.Math.Path.{refl, ap}
use Rattle.std.proofs.Common.{◌∙◌, ltb-true, ltb-false, leb-true, leb-false, eqb-true}
use Rattle.std.proofs.Math.Bool.{true, false, cond}
use Prim.Native.Nat.{ℕ, zero, suc, ◌+◌, ◌-◌, ◌≤◌, ◌<◌, min, max}
use native.Mathlib.Omega.{arith}
use Rattle.std.proofs.lemmas.Bool.{eqb-false}
use Rattle.std.proofs.Math.ListN.{get_or, set, length-set}
use Rattle.std.proofs.Math.Seq.{get_or-set_same, get_or-set_other}
use Rattle.tiles.specs.Below.{sum_below}
use Rattle.reading.specs.search.Readings.{less}
use Rattle.ready_choices.specs.search.Tallies.{HandTally, MeldsTally, NearestTally}
use Rattle.ready_choices.specs.search.Moves.{most, state, taken, next, fine, ended, kept, worth, best}
use Rattle.ready_nearest.specs.search.Found.{Walked, Topmost}
use Rattle.ready_nearest.specs.search.Top.{greatest, top_start, fewest}
use Rattle.ready_choices.proofs.laws.Sums.{total_suc, total_zero, total_cong}
use Rattle.ready_choices.proofs.laws.Reach.{Reach, begin, move, both, worth_fine, reach_cong}
use Rattle.ready_choices.proofs.laws.Near.{groups, seven, thirteen}
use Rattle.ready_nearest.proofs.laws.Table.{start_low, top_melded, top_of}
use Rattle.ready_nearest.proofs.laws.Answer.{some_complete, tile_more, shorter_nearest}

-- ---- a greatest one, and a lesser one

-- the greatest is one of them
most_some : (f : ℕ → ℕ) (n : ℕ) → 1 ≤ most n f → (e : ℕ) × (e < n) × (f e ≡ most n f)
unfolding most
most_some f zero h = absurd (omega arith)
most_some f (suc n) h = go (λ i. most_some f n i) (leb (most n f) (f n)) refl
  where
    go : (1 ≤ most n f → (e : ℕ) × (e < n) × (f e ≡ most n f)) → (b : Bool) → leb (most n f) (f n) ≡ b → (e : ℕ) × (e < suc n) × (f e ≡ max (most n f) (f n))
    go r true q = (n, omega arith, omega (arith, leb-true (most n f) (f n) q))
    go r false q = let l = leb-false (most n f) (f n) q in let (e, i, v) = r (omega arith) in (e, omega arith, omega arith)

-- where a sum is less a term is
lesser : (f g : ℕ → ℕ) (n : ℕ) → sum_below n f < sum_below n g → (k : ℕ) × (k < n) × (f k < g k)
lesser f g zero h = absurd (omega (arith, total_zero f, total_zero g))
lesser f g (suc n) h = go (λ i. lesser f g n i) (ltb (f n) (g n)) refl (total_suc n f) (total_suc n g)
  where
    go : (sum_below n f < sum_below n g → (k : ℕ) × (k < n) × (f k < g k)) → (b : Bool) → ltb (f n) (g n) ≡ b → sum_below (suc n) f ≡ sum_below n f + f n
        → sum_below (suc n) g ≡ sum_below n g + g n
        → (k : ℕ) × (k < suc n) × (f k < g k)
    go r true q x y = (n, omega arith, ltb-true (f n) (g n) q)
    go r false q x y = let l = ltb-false (f n) (g n) q in let (k, i, v) = r (omega arith) in (k, omega arith, v)

worth_begun : (have room : ℕ) (later : ℕ → ℕ) (k s e : ℕ) → 1 ≤ worth have room later k s e → (fine room k s e ≡ true) × (1 ≤ later (next s e))
unfolding worth kept
worth_begun have room later k s e h = go (fine room k s e) (later (next s e)) h
  where
    go : (b : Bool) (v : ℕ) → 1 ≤ cond b (kept v (min have (taken k s e))) 0 → (b ≡ true) × (1 ≤ v)
    go true zero h = absurd (omega arith)
    go true (suc v) h = (refl, omega arith)
    go false v h = absurd (omega arith)

-- ---- the best choices from a start

module _ (t d : List ℕ) (start : ℕ) where
  -- made at the first k kinds
  record Made (k s : ℕ) (w : List ℕ) : Type 0 where
    long : length w ≡ 34
    reach : Reach start d w k s
    more : 1 ≤ best t d (34 - k) k s
    keeps : sum_below k (both t w) + best t d (34 - k) k s ≡ best t d 34 0 start

  made_more : (k s : ℕ) (w : List ℕ) → k < 34 → Made k s w → (r : ℕ) × (v : List ℕ) × Made (suc k) r v
  unfolding best
  made_more k s w l h =
      let n = 34 - suc k in
      let i : 34 - k ≡ suc n = omega arith in
      let a : 1 ≤ best t d (suc n) k s = rw i at h.more in
      let c : sum_below k (both t w) + best t d (suc n) k s ≡ best t d 34 0 start = rw i at h.keeps in
      let f = worth (get_or t k 0) (4 - get_or d k 0) (best t d n (suc k)) k s in
      let (e, g, q) = most_some f 10 a in
      let (z, o) = worth_begun (get_or t k 0) (4 - get_or d k 0) (best t d n (suc k)) k s e (omega arith) in
      let y = worth_fine (get_or t k 0) (4 - get_or d k 0) (best t d n (suc k)) k s e z o in
      let v = set w k (taken k s e) in
      let here : get_or v k 0 ≡ taken k s e = get_or-set_same w k (taken k s e) 0 (omega (arith, h.long)) in
      let earlier : (j : ℕ) → j < k → get_or v j 0 ≡ get_or w j 0 = λ j u. get_or-set_other w k j (taken k s e) 0 (omega arith) in
      let b : both t v k ≡ min (get_or t k 0) (taken k s e) = ap (λ x. min (get_or t k 0) x) here in
      let p : sum_below k (both t v) ≡ sum_below k (both t w) = total_cong (both t v) (both t w) k (λ j u. rw (earlier j u)) in (
        next s e,
        v,
        record {
          long = length-set w k (taken k s e) ∙ h.long;
          reach = move (reach_cong start d w v k s h.reach earlier) e g z here refl;
          more = o;
          keeps = omega (arith, total_suc k (both t v));
        },
      )

  made : 1 ≤ best t d 34 0 start → (k : ℕ) → k ≤ 34 → (s : ℕ) × (w : List ℕ) × Made k s w
  made h zero l = (start, replicate 34 0, record { long = refl; reach = begin; more = h; keeps = omega (arith, total_zero (both t (replicate 34 0))) })
  made h (suc k) l = let (s, w, m) = made h k (omega arith) in made_more k s w (omega arith) m

  walked : 1 ≤ best t d 34 0 start → (w : List ℕ) × Walked t d start w
  unfolding best
  walked h =
      let (s, w, m) = made h 34 (omega arith) in
      let o : ended s ≡ true = yes (ended s) m.more in
      let k : sum_below 34 (both t w) + cond (ended s) 1 0 ≡ best t d 34 0 start = m.keeps in
      (w, record { long = m.long; end = s; reach = m.reach; done = o; keeps = rw o at k })
    where
      yes : (b : Bool) → 1 ≤ cond b 1 0 → b ≡ true
      yes true h = refl
      yes false h = absurd (omega arith)

-- ---- the best start

-- of three values: the regular hand's, seven pairs', thirteen orphans'
top_three : (t d : List ℕ) (m a b c : ℕ) → m ≡ 0 → best t d 34 0 (state 0 0 (4 - m) 1) ≡ a → best t d 34 0 77 ≡ b → best t d 34 0 79 ≡ c
    → (p q r : Bool) → leb b a ≡ p → leb c a ≡ q → leb c b ≡ r → Topmost t d m (cond p (cond q (state 0 0 (4 - m) 1) 79) (cond r 77 79))
top_three t d m a b c z u v w true true r x y k =
    top_of t d m (state 0 0 (4 - m) 1) (groups refl) (omega (arith, start_low m)) (omega arith) (omega (arith, leb-true b a x))
    (omega (arith, leb-true c a y))
top_three t d m a b c z u v w true false r x y k =
    top_of t d m 79 (thirteen z refl) (omega arith) (omega (arith, leb-false c a y)) (omega (arith, leb-true b a x, leb-false c a y)) (omega arith)
top_three t d m a b c z u v w false q true x y k =
    top_of t d m 77 (seven z refl) (omega arith) (omega (arith, leb-false b a x)) (omega arith) (omega (arith, leb-true c b k))
top_three t d m a b c z u v w false q false x y k =
    top_of t d m 79 (thirteen z refl) (omega arith) (omega (arith, leb-false b a x, leb-false c b k)) (omega (arith, leb-false c b k)) (omega arith)

top_is : (t d : List ℕ) (m : ℕ) → m ≤ 4 → Topmost t d m (top_start t d m)
unfolding top_start
top_is t d m h = go (eqb m 0) refl
  where
    go : (x : Bool) → eqb m 0 ≡ x → Topmost t d m (cond x (greatest (state 0 0 (4 - m) 1) (best t d 34 0 (state 0 0 (4 - m) 1)) (best t d 34 0 77) (best t d 34 0 79)) (state 0 0 (4 - m) 1))
    go true q = top_three t d m _ _ _ (eqb-true m 0 q) refl refl refl _ _ _ refl refl refl
    go false q = top_melded t d m h (eqb-false m 0 q)

-- ---- a nearest ready tally

pub nearest_fewest : (t d : List ℕ) (m : ℕ) → HandTally t d m → length d ≡ 34 → MeldsTally d m → (u : List ℕ) × NearestTally t d m (fewest t d m) u
unfolding fewest
nearest_fewest t d m h l g =
    let s = top_start t d m in
    let p = top_is t d m g.few in
    let (w, q) = walked t d s (some_complete t d m h l s p g) in
    let (k, i, a) = lesser (λ k. get_or t k 0) (λ k. get_or w k 0) 34 (tile_more t d m h l s p g w q) in
    (less w k 1, shorter_nearest t d m h l s p g w q (less w k 1) (record { kind = k; low = i; lack = a; less_one = refl }))

pub nearest_exists : (t d : List ℕ) (m : ℕ) → HandTally t d m → length d ≡ 34 → MeldsTally d m → (n : ℕ) × (u : List ℕ) × NearestTally t d m n u
nearest_exists t d m h l g = let (u, q) = nearest_fewest t d m h l g in (fewest t d m, u, q)
