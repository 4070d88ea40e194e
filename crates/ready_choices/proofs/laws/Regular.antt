-- A regular hand and the choices that make it: from a pair and groups to choices.
use Rattle.std.specs.Prelude.{◌≡◌, ◌⊎◌, List, [], ◌∷◌, ltb, leb, eqb, length}
use Rattle.std.proofs.Math.Path.{refl, subst}
use Rattle.std.proofs.Common.{sym, ◌∙◌, inl, inr}
use mathlib.Core.Bool.{Bool, true, false, ◌&&◌, ◌||◌}
use Rattle.std.proofs.Math.Logic.{⊎_elim}
use Prim.Native.Nat.{ℕ, zero, suc, ◌+◌, ◌-◌, ◌*◌, ◌%◌, ◌≤◌, ◌<◌}
use native.Mathlib.Omega.{arith}
use borrow.Author.Tests.{lt-ltb, le-ltb, le-leb, eq-eqb, ltb-true, leb-true, eqb-true, eqb-false}
use Rattle.std.proofs.Math.ListN.{get_or}
use Rattle.tiles.specs.Below.{sum_below}
use Rattle.tiles.specs.Kinds.{is_run_start}
use Rattle.tiles.specs.Groups.{is_group, at_kind, uses}
use Rattle.tiles.proofs.laws.Below.{and_true}
use Rattle.tiles.proofs.laws.Tally.{of_kind}
use Rattle.reading.specs.Reading.{used_by, Ascends}
use Rattle.reading.proofs.laws.Groups.{run_or, triplet_in, at_same, at_other}
use Rattle.ready_choices.specs.search.Moves.{a_of, b_of, g_of, p_of, state, place, tetra, triangle, x_of, y_of, z_of, live, may, taken, next}
use Rattle.ready_choices.proofs.laws.Reach.{Reach, begin, move, fine_of}
use Rattle.ready_choices.proofs.laws.Sums.{total_suc, total_zero, total_mono, total_cong, total_add, total_none, total_at}
use Rattle.ready_choices.proofs.laws.State.{Read, state_read, chosen}

-- what f has at the kind before, 0 before the first
unfoldable pub back : (ℕ → ℕ) → ℕ → ℕ
back f zero = 0
back f (suc k) = f k

-- ---- a hand by runs begun, triplets and pairs at each kind
pub record Shape (G : ℕ) (w : List ℕ) : Type 0 where
  pub x : ℕ → ℕ
  pub y : ℕ → ℕ
  pub z : ℕ → ℕ
  pub runs : (k : ℕ) → k < 34 → 0 < x k → is_run_start k ≡ true
  pub tiles : (k : ℕ) → k < 34 → get_or w k 0 ≡ x k + back x k + back (back x) k + 3 * y k + 2 * z k
  pub groups : sum_below 34 (λ k. x k + y k) ≡ G
  pub pair : sum_below 34 z ≡ 1

or_right : (a b : Bool) → b ≡ true → a || b ≡ true
or_right true b e = refl
or_right false b e = e

pub run_start : (k : ℕ) → is_run_start k ≡ true → (k < 27) × (k % 9 ≤ 6)
run_start k e =
    let q = and_true (ltb k 27) (leb (k % 9) 6) e in
    (ltb-true _ _ q.0, leb-true _ _ q.1)

-- ---- a choice in a state of a regular hand
module _ (k s e : ℕ) (l : s < 70) where
  pub taken_regular : taken k s e ≡ a_of s + b_of s + x_of e + 3 * y_of e + 2 * z_of e
  unfolding taken
  taken_regular = rw (lt-ltb s 70 l)

  pub next_regular : next s e ≡ state (x_of e) (a_of s) (g_of s - (x_of e + y_of e)) (p_of s - z_of e)
  unfolding next
  next_regular = rw (lt-ltb s 70 l)

  pub may_regular : x_of e + y_of e ≤ g_of s → z_of e ≤ p_of s → eqb (x_of e) 0 || is_run_start k ≡ true → may k s e ≡ true
  unfolding may
  may_regular a b c = rw (lt-ltb s 70 l, le-leb (x_of e + y_of e) (g_of s) a, le-leb (z_of e) (p_of s) b) c

pub live_regular : (k s : ℕ) → s < 70 → eqb (a_of s) 0 || (ltb k 27 && leb 1 (k % 9) && leb (k % 9) 7) ≡ true
    → eqb (b_of s) 0 || (ltb k 27 && leb 2 (k % 9)) ≡ true →
    live k s ≡ true
unfolding live
live_regular k s l a b = rw (lt-ltb s 70 l, a, b)

under : (x w d : ℕ) → w ≡ x → w + d ≤ 4 → x ≤ 4 - d
under x w d e h = omega arith

sum_cong : {a b c d : ℕ} → a ≡ c → b ≡ d → a + b ≡ c + d
sum_cong e f = omega arith

-- what is left after v more
leaves : (N T S g u v : ℕ) → g ≡ N - T → S ≡ T + v → u ≡ v → S ≤ N → (u ≤ g) × (g - u ≡ N - S)
leaves N T S g u v e f q h = (omega arith, omega arith)

pub state_cong : {a b g p a1 b1 g1 p1 : ℕ} → a ≡ a1 → b ≡ b1 → g ≡ g1 → p ≡ p1 → state a b g p ≡ state a1 b1 g1 p1
state_cong e1 e2 e3 e4 = rw (e1, e2, e3, e4)

module _ (G : ℕ) (d w : List ℕ) (g4 : G ≤ 4) (four : (k : ℕ) → k < 34 → get_or w k 0 + get_or d k 0 ≤ 4) (h : Shape G w) where
  -- the state before the kind k
  unfoldable pub before : ℕ → ℕ
  before k = state (back h.x k) (back (back h.x) k) (G - sum_below k (λ j. h.x j + h.y j)) (1 - sum_below k h.z)

  -- runs begun before are among the groups begun
  pub runs_among : (k : ℕ) → back h.x k + back (back h.x) k ≤ sum_below k (λ j. h.x j + h.y j)
  unfolding back
  runs_among zero = omega arith
  runs_among (suc zero) = let q = total_suc 0 (λ j. h.x j + h.y j) in omega arith
  runs_among (suc (suc k)) =
      let q = total_suc (suc k) (λ j. h.x j + h.y j) in
      let r = total_suc k (λ j. h.x j + h.y j) in
      omega arith

  pub before_read : (k : ℕ) → k ≤ 34 → Read (back h.x k) (back (back h.x) k) (G - sum_below k (λ j. h.x j + h.y j)) (1 - sum_below k h.z) (before k)
  unfolding before
  before_read k l =
      state_read _ _ _ _ (omega (arith, runs_among k, h.groups, total_mono (λ j. h.x j + h.y j) k 34 l)) (omega arith)

  -- a run was begun where runs begin
  some_run : (j : ℕ) (b : Bool) → j < 34 → eqb (h.x j) 0 ≡ b → (h.x j ≡ 0) ⊎ (is_run_start j ≡ true)
  some_run j true l e = inl (eqb-true _ _ e)
  some_run j false l e = inr (h.runs j l (let n : h.x j ≡ 0 → ⊥ = eqb-false (h.x j) 0 e in omega arith))

  allow_a : (k : ℕ) → k < 34 → eqb (back h.x k) 0 || (ltb k 27 && leb 1 (k % 9) && leb (k % 9) 7) ≡ true
  unfolding back
  allow_a zero l = refl
  allow_a (suc j) l =
      ⊎_elim (λ e. rw (eq-eqb (h.x j) 0 e))
      (λ r.
      let (a, b) = run_start j r in
      or_right (eqb (h.x j) 0) _ (rw (lt-ltb (suc j) 27 (omega arith), le-leb 1 (suc j % 9) (omega arith), le-leb (suc j % 9) 7 (omega arith))))
      (some_run j (eqb (h.x j) 0) (omega arith) refl)

  allow_b : (k : ℕ) → k < 34 → eqb (back (back h.x) k) 0 || (ltb k 27 && leb 2 (k % 9)) ≡ true
  unfolding back
  allow_b zero l = refl
  allow_b (suc zero) l = refl
  allow_b (suc (suc j)) l =
      ⊎_elim (λ e. rw (eq-eqb (h.x j) 0 e))
      (λ r.
      let (a, b) = run_start j r in
      or_right (eqb (h.x j) 0) _ (rw (lt-ltb (suc (suc j)) 27 (omega arith), le-leb 2 (suc (suc j) % 9) (omega arith))))
      (some_run j (eqb (h.x j) 0) (omega arith) refl)

  allow_x : (k : ℕ) → k < 34 → eqb (h.x k) 0 || is_run_start k ≡ true
  allow_x k l = ⊎_elim (λ e. rw (eq-eqb (h.x k) 0 e)) (λ r. or_right (eqb (h.x k) 0) (is_run_start k) r) (some_run k (eqb (h.x k) 0) l refl)

  reach_one : (k : ℕ) → k < 34 → Reach (before 0) d w k (before k) → Reach (before 0) d w (suc k) (before (suc k))
  unfolding back before
  reach_one k l r =
      let s = before k in
      let q = before_read k (omega arith) in
      let ts : sum_below (suc k) h.z ≡ sum_below k h.z + h.z k = total_suc k h.z in
      let tg : sum_below (suc k) (λ j. h.x j + h.y j) ≡ sum_below k (λ j. h.x j + h.y j) + (h.x k + h.y k) = total_suc k (λ j. h.x j + h.y j) in
      let mz : sum_below (suc k) h.z ≤ 1 = omega (arith, h.pair, total_mono h.z (suc k) 34 l) in
      let mg : sum_below (suc k) (λ j. h.x j + h.y j) ≤ G = omega (arith, h.groups, total_mono (λ j. h.x j + h.y j) (suc k) 34 l) in
      let tl : get_or w k 0 ≡ h.x k + back h.x k + back (back h.x) k + 3 * h.y k + 2 * h.z k = h.tiles k l in
      let fw : get_or w k 0 + get_or d k 0 ≤ 4 = four k l in
      let c = chosen (h.x k) (h.y k) (h.z k) (omega arith) (omega arith) in
      let e = c.e in
      let tk = taken_regular k s e q.low in
      let ex = c.runs in
      let ey = c.triplets in
      let ez = c.pairs in
      let qa = q.runs_a in
      let qb = q.runs_b in
      let qg = q.groups in
      let qp = q.pairs in
      let same : get_or w k 0 ≡ taken k s e = omega arith in
      let fit : taken k s e ≤ 4 - get_or d k 0 = under (taken k s e) (get_or w k 0) (get_or d k 0) same fw in
      let (enough, left-g) = leaves G (sum_below k (λ j. h.x j + h.y j)) (sum_below (suc k) (λ j. h.x j + h.y j)) (g_of s) (x_of e + y_of e) (h.x k + h.y k)
      qg tg (sum_cong ex ey) mg in
      let (paired, left-p) = leaves 1 (sum_below k h.z) (sum_below (suc k) h.z) (p_of s) (z_of e) (h.z k) qp ts ez mz in
      move r e c.low
      (fine_of (4 - get_or d k 0) k s e (live_regular k s q.low (rw qa (allow_a k l)) (rw qb (allow_b k l)))
      (may_regular k s e q.low enough paired (rw ex (allow_x k l))) fit)
      same
      (sym (next_regular k s e q.low ∙ state_cong ex qa left-g left-p))

  reaches : (k : ℕ) → k ≤ 34 → Reach (before 0) d w k (before k)
  reaches zero l = begin
  reaches (suc k) l = reach_one k l (reaches k (omega arith))

  -- at the end nothing is left
  before_end : before 34 ≡ 0
  unfolding back before state place tetra triangle
  before_end =
      let a : h.x 33 ≡ 0 = no_run 33 refl (omega arith) in
      let b : h.x 32 ≡ 0 = no_run 32 refl (omega arith) in
      let c : G - sum_below 34 (λ j. h.x j + h.y j) ≡ 0 = omega (arith, h.groups) in
      let e : 1 - sum_below 34 h.z ≡ 0 = omega (arith, h.pair) in
      rw (a, b, c, e)
    where
      no_run : (j : ℕ) → is_run_start j ≡ false → j < 34 → h.x j ≡ 0
      no_run j f l = ⊎_elim (λ e. e) (λ r. absurd (mathlib.Core.Bool.false≢true (sym f ∙ r))) (some_run j (eqb (h.x j) 0) l refl)

  -- a hand of this shape takes choices to the end
  pub shape_reach : Reach (state 0 0 G 1) d w 34 0
  unfolding back before
  shape_reach =
      let g : G - sum_below 0 (λ j. h.x j + h.y j) ≡ G = omega (arith, total_zero (λ j. h.x j + h.y j)) in
      let p : 1 - sum_below 0 h.z ≡ 1 = omega (arith, total_zero h.z) in
      let a : before 0 ≡ state 0 0 G 1 = state_cong refl refl g p in
      subst (λ (s : ℕ). Reach s d w 34 0) a (subst (λ (s : ℕ). Reach (before 0) d w 34 s) before_end (reaches 34 (omega arith)))

-- ---- from a pair and groups
at_back : (g n k : ℕ) → at_kind (g + 1) n k ≡ back (at_kind g n) k
unfolding back
at_back g n zero = at_other (g + 1) n 0 (omega arith)
at_back g n (suc j) =
    go (eqb g j) refl
  where
    go : (b : Bool) → eqb g j ≡ b → at_kind (g + 1) n (suc j) ≡ at_kind g n j
    go true e = let q : g ≡ j = eqb-true g j e in rw q (let r : j + 1 ≡ suc j = omega arith in rw r (at_same (suc j) n ∙ sym (at_same j n)))
    go false e = let q : g ≡ j → ⊥ = eqb-false g j e in at_other (g + 1) n (suc j) (λ r. q (omega arith)) ∙ sym (at_other g n j q)

back_cong : (f h : ℕ → ℕ) (k : ℕ) → ((j : ℕ) → j < k → f j ≡ h j) → back f k ≡ back h k
unfolding back
back_cong f h zero e = refl
back_cong f h (suc j) e = e j (omega arith)

back_zero : (k : ℕ) → back (λ _. 0) k ≡ 0
unfolding back
back_zero zero = refl
back_zero (suc j) = refl

back_add : (f h : ℕ → ℕ) (k : ℕ) → back (λ j. f j + h j) k ≡ back f k + back h k
unfolding back
back_add f h zero = refl
back_add f h (suc j) = refl

-- the tiles of a group, by where it begins
group_tiles : (g k : ℕ) → is_group g ≡ true → k < 34 → uses g k ≡ at_kind g 1 k + back (at_kind g 1) k + back (back (at_kind g 1)) k + 3 * at_kind g 1 (34 + k)
unfolding uses
group_tiles g k e l =
    run_or g
    (λ r.
    let c2 : g + 1 + 1 ≡ g + 2 = omega arith in
    let b2 : at_kind (g + 2) 1 k ≡ back (back (at_kind g 1)) k =
    rw (← c2) (at_back (g + 1) 1 k ∙ back_cong (at_kind (g + 1) 1) (back (at_kind g 1)) k (λ j i. at_back g 1 j)) in
    rw (lt-ltb g 34 r) (omega (arith, at_back g 1 k, b2, at_other g 1 (34 + k) (omega arith))))
    (λ r.
    let z1 : back (at_kind g 1) k ≡ 0 = back_cong (at_kind g 1) (λ _. 0) k (λ j i. at_other g 1 j (omega arith)) ∙ back_zero k in
    let z2 : back (back (at_kind g 1)) k ≡ 0 =
    back_cong (back (at_kind g 1)) (λ _. 0) k (λ j i. back_cong (at_kind g 1) (λ _. 0) j (λ a q. at_other g 1 a (omega arith)) ∙ back_zero j)
    ∙ back_zero k in
    rw (le-ltb g 34 r) (omega (arith, z1, z2, at_other g 1 k (omega arith), trip (eqb (g - 34) k) refl r)))
  where
    trip : (b : Bool) → eqb (g - 34) k ≡ b → 34 ≤ g → at_kind (g - 34) 3 k ≡ 3 * at_kind g 1 (34 + k)
    trip true q r =
        let i : g - 34 ≡ k = eqb-true (g - 34) k q in
        let j : g ≡ 34 + k = omega arith in
        let one : at_kind g 1 (34 + k) ≡ 1 = rw j (at_same (34 + k) 1) in
        let three : at_kind (g - 34) 3 k ≡ 3 = rw i (at_same k 3) in
        omega (arith, one, three)
    trip false q r =
        let i : g - 34 ≡ k → ⊥ = eqb-false (g - 34) k q in
        omega (arith, at_other (g - 34) 3 k i, at_other g 1 (34 + k) (λ o. i (omega arith)))

empty : (j : ℕ) → of_kind [] j ≡ 0
unfolding of_kind
empty j = refl

cons : (g : ℕ) (gs : List ℕ) (k : ℕ) → of_kind (g ∷ gs) k ≡ at_kind g 1 k + of_kind gs k
unfolding of_kind
cons g gs k = refl

back_of_kind : (g : ℕ) (gs : List ℕ) (k : ℕ) → back (of_kind (g ∷ gs)) k ≡ back (at_kind g 1) k + back (of_kind gs) k
unfolding of_kind
back_of_kind g gs k = back_add (at_kind g 1) (of_kind gs) k

back_back_of_kind : (g : ℕ) (gs : List ℕ) (k : ℕ) → back (back (of_kind (g ∷ gs))) k ≡ back (back (at_kind g 1)) k + back (back (of_kind gs)) k
back_back_of_kind g gs k =
    back_cong (back (of_kind (g ∷ gs))) (λ j. back (at_kind g 1) j + back (of_kind gs) j) k (λ j i. back_of_kind g gs j)
    ∙ back_add (back (at_kind g 1)) (back (of_kind gs)) k

-- the tiles of groups, by where they begin
groups_tiles : (gs : List ℕ) (c k : ℕ) → Ascends c gs → k < 34
    → used_by gs k ≡ of_kind gs k + back (of_kind gs) k + back (back (of_kind gs)) k + 3 * of_kind gs (34 + k)
unfolding used_by
groups_tiles [] c k o l =
    none (back_cong (of_kind []) (λ _. 0) k (λ j i. empty j) ∙ back_zero k)
    (back_cong (back (of_kind [])) (λ _. 0) k (λ j i. back_cong (of_kind []) (λ _. 0) j (λ i q. empty i) ∙ back_zero j) ∙ back_zero k)
  where
    none : back (of_kind []) k ≡ 0 → back (back (of_kind [])) k ≡ 0 → 0 ≡ of_kind [] k + back (of_kind []) k + back (back (of_kind [])) k + 3 * of_kind [] (34 + k)
    none a b = omega (arith, empty k, empty (34 + k))
groups_tiles (g ∷ gs) c k o l =
    omega (arith, groups_tiles gs g k o.2 l, group_tiles g k o.1 l, back_of_kind g gs k, back_back_of_kind g gs k, cons g gs k, cons g gs (34 + k))

-- each group begins once
begin_once : (g : ℕ) → is_group g ≡ true → sum_below 34 (at_kind g 1) + sum_below 34 (λ k. at_kind g 1 (34 + k)) ≡ 1
begin_once g e =
    run_or g
    (λ r. omega (arith, total_at g 1 34 r, total_none (λ k. at_kind g 1 (34 + k)) 34 (λ k l. at_other g 1 (34 + k) (omega arith))))
    (λ r.
    let s : sum_below 34 (λ k. at_kind g 1 (34 + k)) ≡ sum_below 34 (at_kind (g - 34) 1) =
    total_cong (λ k. at_kind g 1 (34 + k)) (at_kind (g - 34) 1) 34 (λ k l. same r k (eqb (g - 34) k) refl) in
    omega (arith, total_none (at_kind g 1) 34 (λ k l. at_other g 1 k (omega arith)), s, total_at (g - 34) 1 34 (omega (arith, triplet_in g e r))))
  where
    same : 34 ≤ g → (k : ℕ) (b : Bool) → eqb (g - 34) k ≡ b → at_kind g 1 (34 + k) ≡ at_kind (g - 34) 1 k
    same r k true q =
        let i : g - 34 ≡ k = eqb-true (g - 34) k q in
        let j : g ≡ 34 + k = omega arith in
        let one : at_kind g 1 (34 + k) ≡ 1 = rw j (at_same (34 + k) 1) in
        let two : at_kind (g - 34) 1 k ≡ 1 = rw i (at_same k 1) in
        one ∙ sym two
    same r k false q =
        let i : g - 34 ≡ k → ⊥ = eqb-false (g - 34) k q in
        at_other g 1 (34 + k) (λ o. i (omega arith)) ∙ sym (at_other (g - 34) 1 k i)

groups_begin : (gs : List ℕ) (c : ℕ) → Ascends c gs → sum_below 34 (of_kind gs) + sum_below 34 (λ k. of_kind gs (34 + k)) ≡ length gs
unfolding of_kind
groups_begin [] c o = omega (arith, total_none (λ k. 0) 34 (λ k l. refl))
groups_begin (g ∷ gs) c o =
    omega (
      arith,
      groups_begin gs g o.2,
      begin_once g o.1,
      total_add (at_kind g 1) (of_kind gs) 34,
      total_add (λ k. at_kind g 1 (34 + k))
          (λ k. of_kind gs (34 + k)) 34,
    )

pub group_run : (g : ℕ) → is_group g ≡ true → g < 34 → is_run_start g ≡ true
unfolding is_group
group_run g e r = rw (lt-ltb g 34 r) at e

of_kind_run : (gs : List ℕ) (c k : ℕ) → Ascends c gs → k < 34 → 0 < of_kind gs k → is_run_start k ≡ true
unfolding of_kind
of_kind_run [] c k o l h = absurd (omega arith)
of_kind_run (g ∷ gs) c k o l h = go (λ i. of_kind_run gs g k o.2 l i) (eqb g k) refl
  where
    go : (0 < of_kind gs k → is_run_start k ≡ true) → (b : Bool) → eqb g k ≡ b → is_run_start k ≡ true
    go f true e = let q : g ≡ k = eqb-true g k e in rw (← q) (group_run g o.1 (omega arith))
    go f false e = f (omega (arith, at_other g 1 k (eqb-false g k e)))

at_two : (a k : ℕ) (b : Bool) → eqb a k ≡ b → at_kind a 2 k ≡ 2 * at_kind a 1 k
unfolding at_kind
at_two a k true e = rw e
at_two a k false e = rw e

-- a pair and groups have a shape
pub shape_of : (gs w : List ℕ) (c pair : ℕ) → Ascends c gs → pair < 34 → ((k : ℕ) → k < 34 → get_or w k 0 ≡ at_kind pair 2 k + used_by gs k) → Shape (length gs) w
shape_of gs w c pair o p h = record {
  x = of_kind gs;
  y = λ k. of_kind gs (34 + k);
  z = at_kind pair 1;
  runs = λ k l i. of_kind_run gs c k o l i;
  tiles = λ k l. omega (arith, h k l, groups_tiles gs c k o l, at_two pair k (eqb pair k) refl);
  groups = total_add (of_kind gs) (λ k. of_kind gs (34 + k)) 34 ∙ groups_begin gs c o;
  pair = total_at pair 1 34 p;
}
