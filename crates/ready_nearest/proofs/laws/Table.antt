-- The table of the best values, filled from its end, and the walk along its best choices.
use Rattle.std.specs.Prelude.{◌≡◌, Bool, List, [], ltb, replicate}
use Rattle.std.proofs.Math.Path.{refl, ap}
use Rattle.std.proofs.Common.{sym, ◌∙◌}
use Rattle.std.proofs.Math.Bool.{true, false, cond}
use Prim.Native.Nat.{ℕ, zero, suc, ◌+◌, ◌-◌, ◌*◌, ◌≤◌, ◌<◌, min}
use native.Mathlib.Omega.{arith}
use Rattle.std.proofs.Math.Numerals.{add-one}
use borrow.Author.Tests.{eqb-true, eqb-false, ltb-true, ltb-false}
use Rattle.std.proofs.Math.Dec.{eqb}
use Rattle.std.proofs.Math.ListN.{length, get_or, set, length-set, get_or-eq_default}
use Rattle.std.proofs.Math.Seq.{get_or-set_same, get_or-set_other}
use Rattle.tiles.specs.Below.{sum_below, all_below}
use Rattle.tiles.proofs.laws.Below.{every_at}
use Rattle.ready_nearest.specs.declared.Choice.{Choice}
use Rattle.ready_choices.specs.search.Moves.{may, taken, next, fine, ended, most, kept, worth, best, state, a_of, g_of, p_of, x_of, y_of, z_of}
use Rattle.ready_nearest.specs.search.Found.{Got, Chose, after, Small, Fours, RowOf, Filled, Walked, Topmost}
use Rattle.ready_choices.proofs.laws.Sums.{total_suc, total_zero, total_cong}
use Rattle.ready_choices.proofs.laws.Most.{most_cong, most_le}
use Rattle.ready_choices.proofs.laws.Reach.{Reach, begin, move, both, fine_begun, reach_cong}
use Rattle.ready_choices.proofs.laws.State.{state_read, state_small}
use Rattle.ready_choices.proofs.laws.Regular.{next_regular}
use Rattle.ready_choices.proofs.laws.Built.{may_begun}
use Rattle.ready_choices.proofs.laws.Special.{next_special}
use Rattle.ready_choices.proofs.laws.Near.{Start, groups, seven, thirteen}

-- a choice leads to one of the 80 states
next_low : (k s e : ℕ) → s < 80 → may k s e ≡ true → next s e < 80
next_low k s e h m = go (ltb s 70) refl
  where
    go : (b : Bool) → ltb s 70 ≡ b → next s e < 80
    go true q =
        let l : s < 70 = ltb-true s 70 q in
        let (a, b, c) = may_begun k s e l m in
        let r = state_read (x_of e) (a_of s) (g_of s - (x_of e + y_of e)) (p_of s - z_of e) (omega (arith, state_small s l)) (omega arith) in
        rw (next_regular k s e l) (omega (arith, r.low))
    go false q = rw (next_special k s e (ltb-false s 70 q)) (omega arith)

-- values of the states after a kind that are the same give the same
worth_cong : (have room : ℕ) (f g : ℕ → ℕ) (k s e : ℕ) → s < 80 → ((r : ℕ) → r < 80 → f r ≡ g r) → worth have room f k s e ≡ worth have room g k s e
unfolding worth
worth_cong have room f g k s e h q = go (fine room k s e) refl
  where
    go : (b : Bool) → fine room k s e ≡ b → cond b (kept (f (next s e)) (min have (taken k s e))) 0 ≡ cond b (kept (g (next s e)) (min have (taken k s e))) 0
    go true i = ap (λ v. kept v (min have (taken k s e))) (q (next s e) (next_low k s e h (fine_begun room k s e i).1))
    go false i = refl

-- ---- bounds
kept_le : (v x : ℕ) → kept v x ≤ v + x
unfolding kept
kept_le zero x = omega arith
kept_le (suc v) x = omega arith

cond_le : (b : Bool) (x n : ℕ) → x ≤ n → cond b x 0 ≤ n
cond_le true x n h = h
cond_le false x n h = omega arith

pub best_le : (t d : List ℕ) → Fours t → (n k s : ℕ) → best t d n k s ≤ 1 + 4 * n
unfolding best worth
best_le t d h zero k s = cond_le (ended s) 1 1 (omega arith)
best_le t d h (suc n) k s =
    most_le (worth (get_or t k 0) (4 - get_or d k 0) (best t d n (suc k)) k s) 10 (1 + 4 * suc n)
    (λ e l. cond_le (fine (4 - get_or d k 0) k s e) (kept (best t d n (suc k) (next s e)) (min (get_or t k 0) (taken k s e))) (1 + 4 * suc n)
    (let a = kept_le (best t d n (suc k) (next s e)) (min (get_or t k 0) (taken k s e)) in
    let b = best_le t d h n (suc k) (next s e) in
    let c = h k in
    omega arith))

-- ---- a place of the table
best_suc_is : (t d : List ℕ) (n k s : ℕ) → best t d (suc n) k s ≡ most 10 (worth (get_or t k 0) (4 - get_or d k 0) (best t d n (suc k)) k s)
unfolding best
best_suc_is t d n k s = refl

module _ (t d row : List ℕ) (k s : ℕ) (lk : k < 34) (ls : s < 80) (next_row : RowOf t d (k + 1) row) where
  -- the values of the row after k
  later : (r : ℕ) → r < 80 → after row r ≡ best t d (33 - k) (suc k) r
  later r l = let n : 34 - (k + 1) ≡ 33 - k = omega arith in next_row.values r l ∙ rw (n, add-one)

  -- the most by a row that has the later values is the value
  pub most_best : (v : ℕ) → v ≡ most 10 (worth (get_or t k 0) (4 - get_or d k 0) (after row) k s) → v ≡ best t d (34 - k) k s
  most_best v h =
      let n : 34 - k ≡ suc (33 - k) = omega arith in
      rw n
      (h
      ∙ most_cong (worth (get_or t k 0) (4 - get_or d k 0) (after row) k s) (worth (get_or t k 0) (4 - get_or d k 0) (best t d (33 - k) (suc k)) k s) 10
      (λ e l. worth_cong (get_or t k 0) (4 - get_or d k 0) (after row) (best t d (33 - k) (suc k)) k s e ls later)
      ∙ sym (best_suc_is t d (33 - k) k s))

-- ---- rows
-- the row before one that has the values
pub row_before : (t d row before : List ℕ) (k : ℕ) → k < 34 → RowOf t d (k + 1) row → length before ≡ 80 →
    ((s : ℕ) → s < 80 → get_or before s 0 ≡ most 10 (worth (get_or t k 0) (4 - get_or d k 0) (after row) k s)) → RowOf t d k before
row_before t d row before k l h g v = record { long = g; values = λ s i. most_best t d row k s l i h (get_or before s 0) (v s i) }

-- no value is over 200
pub row_small : (t d row : List ℕ) (k : ℕ) → k ≤ 34 → Fours t → RowOf t d k row → Small row
row_small t d row k l f h s = go (ltb s 80) refl
  where
    go : (b : Bool) → ltb s 80 ≡ b → get_or row s 0 ≤ 200
    go true e = omega (arith, h.values s (ltb-true s 80 e), best_le t d f (34 - k) k s)
    go false e = let past : length row ≤ s = omega (arith, ltb-false s 80 e, h.long) in rw (get_or-eq_default row 0 {n = s} past) (omega arith)

-- after the last kind nothing is left to do in three states
last_values : all_below 80 (λ s. eqb (get_or (set (set (set (replicate 80 0) 0 1) 70 1) 78 1) s 0) (cond (ended s) 1 0)) ≡ true
unfolding all_below ended
last_values = refl

pub last_row : (t d row : List ℕ) → row ≡ set (set (set (replicate 80 0) 0 1) 70 1) 78 1 → RowOf t d 34 row
unfolding best
last_row t d row e = rw e (record {
  long = refl;
  values = λ s l. eqb-true _ _ (every_at (λ s. eqb (get_or (set (set (set (replicate 80 0) 0 1) 70 1) 78 1) s 0) (cond (ended s) 1 0)) 80 s last_values l);
})

-- ---- filling
-- the rows from k on have the values
pub record Filling (t d : List ℕ) (k : ℕ) (table : List (List ℕ)) : Type 0 where
  pub long : length table ≡ 35
  pub rows : (i : ℕ) → k ≤ i → i < 35 → RowOf t d i (get_or table i [])

pub filling_begin : (t d : List ℕ) (table : List (List ℕ)) → length table ≡ 35 → RowOf t d 34 (get_or table 34 []) → Filling t d 34 table
filling_begin t d table l h = record { long = l; rows = λ i a b. let q : i ≡ 34 = omega arith in rw q h }

-- one row more
pub filling_more : (t d : List ℕ) (table : List (List ℕ)) (k : ℕ) (row : List ℕ) → k < 35 → Filling t d (k + 1) table → RowOf t d k row → Filling t d k (set table k row)
filling_more t d table k row l h g = record {
  long = rw length-set h.long;
  rows = λ i a b. at_row i a b (eqb i k) refl;
}
  where
    at_row : (i : ℕ) → k ≤ i → i < 35 → (b : Bool) → eqb i k ≡ b → RowOf t d i (get_or (set table k row) i [])
    at_row i lo hi true e = let w : i ≡ k = eqb-true i k e in rw (w, get_or-set_same table k row [] (omega (arith, h.long))) g
    at_row i lo hi false e = let w : i ≡ k → ⊥ = eqb-false i k e in rw (get_or-set_other table k i row [] w) (h.rows i (omega arith) hi)

pub filling_done : (t d : List ℕ) (table : List (List ℕ)) → Filling t d 0 table → Filled t d table
filling_done t d table f = λ k l. f.rows k (omega arith) l

-- ---- walking
-- the best choices at the first k kinds
pub record Walking (t d : List ℕ) (start k s : ℕ) (w : List ℕ) : Type 0 where
  pub low : k ≤ 34
  pub long : length w ≡ 34
  pub state_low : s < 80
  pub reach : Reach start d w k s
  pub more : 1 ≤ best t d (34 - k) k s
  pub keeps : sum_below k (both t w) + best t d (34 - k) k s ≡ best t d 34 0 start

pub walking_begin : (t d w : List ℕ) (start : ℕ) → length w ≡ 34 → start < 80 → 1 ≤ best t d 34 0 start → Walking t d start 0 start w
walking_begin t d w start g l h = record { low = omega arith; long = g; state_low = l; reach = begin; more = h; keeps = omega (arith, total_zero (both t w)) }

module _ (t d row w : List ℕ) (start k s : ℕ) (c : Choice) (l : k < 34) (f : RowOf t d (k + 1) row) (h : Walking t d start k s w)
    (p : Chose (get_or t k 0) (4 - get_or d k 0) (after row) k s 10 c) where
  v : List ℕ
  v = set w k c.tiles

  worth_it : c.value ≡ best t d (34 - k) k s
  worth_it = most_best t d row k s l h.state_low f c.value p.value

  got : Got (get_or t k 0) (4 - get_or d k 0) (after row) k s c
  got = p.got (rw worth_it h.more)

  here : get_or v k 0 ≡ c.tiles
  unfolding v
  here = get_or-set_same w k c.tiles 0 (omega (arith, h.long))

  earlier : (j : ℕ) → j < k → get_or v j 0 ≡ get_or w j 0
  unfolding v
  earlier j i = get_or-set_other w k j c.tiles 0 (omega arith)

  at_next : best t d (34 - (k + 1)) (k + 1) c.to ≡ after row (next s got.e)
  at_next = sym (f.values c.to p.low) ∙ ap (after row) got.to

  -- one choice more
  pub walking_more : Walking t d start (k + 1) c.to (set w k c.tiles)
  unfolding v
  walking_more =
      let g = got in
      let a = at_next in
      let b : c.value ≡ after row (next s g.e) + min (get_or t k 0) (taken k s g.e) = g.value in
      let e : both t v k ≡ min (get_or t k 0) (taken k s g.e) = ap (λ x. min (get_or t k 0) x) (here ∙ g.tiles) in
      let o : sum_below k (both t v) ≡ sum_below k (both t w) = total_cong (both t v) (both t w) k (λ j i. rw (earlier j i)) in
      let u : sum_below (k + 1) (both t v) ≡ sum_below k (both t v) + both t v k = rw add-one (total_suc k (both t v)) in
      record {
        low = omega arith;
        long = rw length-set h.long;
        state_low = p.low;
        reach = rw add-one (move (reach_cong start d w v k s h.reach earlier) g.e g.low g.fits (here ∙ g.tiles) g.to);
        more = omega (arith, g.more);
        keeps = omega (arith, h.keeps, worth_it);
      }

pub walking_done : (t d w : List ℕ) (start k s : ℕ) → k ≡ 34 → Walking t d start k s w → Walked t d start w
unfolding best
walking_done t d w start k s e h =
    let q : 34 - k ≡ 0 = omega arith in
    let m : 1 ≤ cond (ended s) 1 0 = rw q at h.more in
    let p : sum_below 34 (both t w) + cond (ended s) 1 0 ≡ best t d 34 0 start = rw (q, e) at h.keeps in
    let r : Reach start d w 34 s = rw e at h.reach in
    let o : ended s ≡ true = yes (ended s) m in
    record { long = h.long; end = s; reach = r; done = o; keeps = rw o at p }
  where
    yes : (b : Bool) → 1 ≤ cond b 1 0 → b ≡ true
    yes true h = refl
    yes false h = absurd (omega arith)

-- ---- the best start
pub start_low : (m : ℕ) → state 0 0 (4 - m) 1 < 70
start_low m = (state_read 0 0 (4 - m) 1 (omega arith) (omega arith)).low

-- with melds the hand is regular
pub top_melded : (t d : List ℕ) (m : ℕ) → m ≤ 4 → (m ≡ 0 → ⊥) → Topmost t d m (state 0 0 (4 - m) 1)
top_melded t d m h n = record { from = groups refl; low = omega (arith, start_low m); top = λ r q. only r q }
  where
    only : (r : ℕ) → Start m r → best t d 34 0 r ≤ best t d 34 0 (state 0 0 (4 - m) 1)
    only r (groups q) = rw q (omega arith)
    only r (seven z q) = absurd (n z)
    only r (thirteen z q) = absurd (n z)

-- without melds: the better of the first two starts
pub record Leads (t d : List ℕ) (m s : ℕ) : Type 0 where
  pub from : Start m s
  pub low : s < 80
  pub first : best t d 34 0 (state 0 0 (4 - m) 1) ≤ best t d 34 0 s
  pub second : best t d 34 0 77 ≤ best t d 34 0 s

-- no start is better than one that is no worse than the three
pub top_of : (t d : List ℕ) (m s : ℕ) → Start m s → s < 80 → best t d 34 0 (state 0 0 (4 - m) 1) ≤ best t d 34 0 s → best t d 34 0 77 ≤ best t d 34 0 s
    → best t d 34 0 79 ≤ best t d 34 0 s → Topmost t d m s
top_of t d m s b l x y w = record { from = b; low = l; top = λ r q. each r q }
  where
    each : (r : ℕ) → Start m r → best t d 34 0 r ≤ best t d 34 0 s
    each r (groups q) = rw q x
    each r (seven o q) = rw q y
    each r (thirteen o q) = rw q w

module _ (t d row : List ℕ) (m : ℕ) (f : RowOf t d 0 row) (h : m ≤ 4) (z : m ≡ 0) where
  pub leads_seven : (s : ℕ) → s ≡ state 0 0 (4 - m) 1 → get_or row s 0 < get_or row 77 0 → Leads t d m 77
  leads_seven s q i = record {
    from = seven z refl;
    low = omega arith;
    first = rw (← q) (omega (arith, f.values s (omega (arith, start_low m)), f.values 77 (omega arith)));
    second = omega arith;
  }

  pub leads_regular : (s : ℕ) → s ≡ state 0 0 (4 - m) 1 → get_or row 77 0 ≤ get_or row s 0 → Leads t d m s
  leads_regular s q i = record {
    from = groups q;
    low = omega (arith, start_low m);
    first = rw q (omega arith);
    second = omega (arith, f.values s (omega (arith, start_low m)), f.values 77 (omega arith));
  }

  pub top_orphans : (s : ℕ) → Leads t d m s → get_or row s 0 < get_or row 79 0 → Topmost t d m 79
  top_orphans s l i =
      let a = f.values s l.low in
      let b = f.values 79 (omega arith) in
      top_of t d m 79 (thirteen z refl) (omega arith) (omega (arith, l.first)) (omega (arith, l.second)) (omega arith)

  pub top_leads : (s : ℕ) → Leads t d m s → get_or row 79 0 ≤ get_or row s 0 → Topmost t d m s
  top_leads s l i =
      let a = f.values s l.low in
      let b = f.values 79 (omega arith) in
      top_of t d m s l.from l.low l.first l.second (omega arith)
