-- A regular hand and the choices that make it: from choices to a pair and groups.
use Rattle.std.specs.Prelude.{◌≡◌, refl, Bool, true, false, ◌&&◌, ◌||◌, cond, ◌⊎◌, List, [], ◌∷◌, ℕ, zero, suc, ◌+◌, ◌-◌, ◌*◌, ◌≤◌, ◌<◌, leb, eqb, length, get_or}
use Rattle.std.proofs.Common.{inl, inr, ⊎_elim, eq-or-lt_of_le, le_of_suc-le-suc, suc-mul, zero-mul, lt-ltb, le-ltb, leb-true, eqb-true}
use native.Mathlib.Omega.{arith}
use Rattle.tiles.specs.Kinds.{is_run_start}
use Rattle.tiles.specs.Groups.{is_group, at_kind, uses}
use Rattle.tiles.proofs.laws.Below.{and_true}
use Rattle.reading.specs.Reading.{used_by}
use Rattle.reading.proofs.laws.Groups.{at_same, at_other}
use Rattle.ready_choices.specs.search.Moves.{a_of, b_of, g_of, p_of, state, x_of, y_of, z_of, may, taken, next, fine}
use Rattle.ready_choices.proofs.laws.Reach.{Reach, begin, move, fine_begun}
use Rattle.ready_choices.proofs.laws.State.{Read, state_read, state_small}
use Rattle.ready_choices.proofs.laws.Regular.{taken_regular, next_regular}

-- ---- tiles of a kind
zero_either : (b : Bool) → ◌≡◌ {A = ℕ} (cond b 0 0) 0
zero_either true = refl
zero_either false = refl

at_none : (a k : ℕ) → at_kind a 0 k ≡ 0
unfolding at_kind
at_none a k = zero_either (eqb a k)

pub uses_run : (k j : ℕ) → k < 34 → uses k j ≡ at_kind k 1 j + at_kind (k + 1) 1 j + at_kind (k + 2) 1 j
unfolding uses
uses_run k j l = rw (lt-ltb k 34 l)

uses_triplet : (k j : ℕ) → uses (34 + k) j ≡ at_kind k 3 j
unfolding uses
uses_triplet k j = let e : 34 + k - 34 ≡ k = omega arith in rw (le-ltb (34 + k) 34 (omega arith), e)

-- ---- n groups more of the code c
unfoldable pub rep : ℕ → ℕ → List ℕ → List ℕ
rep zero c l = l
rep (suc n) c l = c ∷ rep n c l

-- groups all
abbrev pub AllGroups : List ℕ → Type 0
AllGroups [] = Unit {0}
AllGroups (g ∷ gs) = (is_group g ≡ true) × AllGroups gs

rep_used : (n c : ℕ) (l : List ℕ) (j : ℕ) → used_by (rep n c l) j ≡ n * uses c j + used_by l j
unfolding rep used_by
rep_used zero c l j = rw zero-mul (omega arith)
rep_used (suc n) c l j = rw suc-mul (omega (arith, rep_used n c l j))

rep_length : (n c : ℕ) (l : List ℕ) → length (rep n c l) ≡ n + length l
unfolding rep
rep_length zero c l = omega arith
rep_length (suc n) c l = omega (arith, rep_length n c l)

rep_groups : (n c : ℕ) (l : List ℕ) → (0 < n → is_group c ≡ true) → AllGroups l → AllGroups (rep n c l)
unfolding rep
rep_groups zero c l h a = a
rep_groups (suc n) c l h a = (h (omega arith), rep_groups n c l (λ i. h (omega arith)) a)

-- ---- a pair more, or none
pub record Paired (pair q k z : ℕ) : Type 0 where
  pub to : ℕ
  pub kind : to < 34
  pub has : (j : ℕ) → at_kind to (2 * (q + z)) j ≡ at_kind pair (2 * q) j + at_kind k (2 * z) j

paired : (pair q k z p : ℕ) → pair < 34 → k < 34 → q + p ≡ 1 → z ≤ p → Paired pair q k z
paired pair q k zero p a b e h = record {
  to = pair;
  kind = a;
  has = λ j. let s : 2 * (q + 0) ≡ 2 * q = omega arith in rw s (omega (arith, at_none k j));
}
paired pair zero k (suc zero) p a b e h = record { to = k; kind = b; has = λ j. omega (arith, at_none pair j) }
paired pair (suc q) k (suc zero) p a b e h = absurd (omega arith)
paired pair q k (suc (suc z)) p a b e h = absurd (omega arith)

-- ---- what the choices at the first k kinds have built
pub record Built (G k s : ℕ) (w : List ℕ) : Type 0 where
  pub low : s < 70
  pub codes : List ℕ
  pub groups : AllGroups codes
  pub pair : ℕ
  pub kind : pair < 34
  pub q : ℕ
  pub size : length codes + g_of s ≡ G
  pub one : q + p_of s ≡ 1
  pub tiles : (j : ℕ) → j < k → get_or w j 0 ≡ at_kind pair (2 * q) j + used_by codes j
  pub now : at_kind pair (2 * q) k + used_by codes k ≡ a_of s + b_of s
  pub soon : at_kind pair (2 * q) (suc k) + used_by codes (suc k) ≡ a_of s
  pub later : (j : ℕ) → k + 2 ≤ j → at_kind pair (2 * q) j + used_by codes j ≡ 0

pub may_begun : (k s e : ℕ) → s < 70 → may k s e ≡ true → (x_of e + y_of e ≤ g_of s) × (z_of e ≤ p_of s) × (0 < x_of e → is_run_start k ≡ true)
unfolding may
may_begun k s e l m =
    let f = rw (lt-ltb s 70 l) at m in
    let a = and_true (leb (x_of e + y_of e) (g_of s) && leb (z_of e) (p_of s)) (eqb (x_of e) 0 || is_run_start k) f in
    let b = and_true (leb (x_of e + y_of e) (g_of s)) (leb (z_of e) (p_of s)) a.0 in
    (leb-true _ _ b.0, leb-true _ _ b.1, λ i. either i (eqb (x_of e) 0) refl a.1)
  where
    either : 0 < x_of e → (b : Bool) → eqb (x_of e) 0 ≡ b → b || is_run_start k ≡ true → is_run_start k ≡ true
    either i true q r = absurd (omega (arith, eqb-true (x_of e) 0 q))
    either i false q r = r

module _ (G k s e r : ℕ) (d w : List ℕ) (kl : k < 34) (B : Built G k s w) (f : fine (4 - get_or d k 0) k s e ≡ true)
    (u : get_or w k 0 ≡ taken k s e) (n : r ≡ next s e) where
  -- the new codes and pair
  codes' : List ℕ
  codes' = rep (x_of e) k (rep (y_of e) (34 + k) B.codes)

  begun : (x_of e + y_of e ≤ g_of s) × (z_of e ≤ p_of s) × (0 < x_of e → is_run_start k ≡ true)
  begun = may_begun k s e B.low (fine_begun (4 - get_or d k 0) k s e f).1

  pair' : Paired B.pair B.q k (z_of e)
  pair' = paired B.pair B.q k (z_of e) (p_of s) B.kind kl B.one begun.1

  read' : Read (x_of e) (a_of s) (g_of s - (x_of e + y_of e)) (p_of s - z_of e) r
  read' = rw (n, next_regular k s e B.low) (state_read _ _ _ _ (omega (arith, state_small s B.low, begun.0)) (omega arith))

  -- how many tiles of a kind the choice adds
  used' : (j a b c : ℕ) → uses k j ≡ a → at_kind k 3 j ≡ b → at_kind k (2 * z_of e) j ≡ c →
      at_kind pair'.to (2 * (B.q + z_of e)) j + used_by codes' j ≡ at_kind B.pair (2 * B.q) j + used_by B.codes j + x_of e * a + y_of e * b + c
  unfolding codes'
  used' j a b c ea eb ec =
      let ua : used_by (rep (x_of e) k (rep (y_of e) (34 + k) B.codes)) j ≡ x_of e * a + used_by (rep (y_of e) (34 + k) B.codes) j =
      rw (← ea) (rep_used (x_of e) k (rep (y_of e) (34 + k) B.codes) j) in
      let ub : used_by (rep (y_of e) (34 + k) B.codes) j ≡ y_of e * b + used_by B.codes j =
      rw (← eb, ← uses_triplet k j) (rep_used (y_of e) (34 + k) B.codes j) in
      let uc : at_kind pair'.to (2 * (B.q + z_of e)) j ≡ at_kind B.pair (2 * B.q) j + at_kind k (2 * z_of e) j = pair'.has j in
      rw (ua, ub, uc, ec) (omega arith)

  run_same : uses k k ≡ 1
  run_same = omega (arith, uses_run k k kl, at_same k 1, at_other (k + 1) 1 k (omega arith), at_other (k + 2) 1 k (omega arith))

  run_next : uses k (suc k) ≡ 1
  run_next = let i : at_kind (k + 1) 1 (suc k) ≡ 1 = (let q : k + 1 ≡ suc k = omega arith in rw q (at_same (suc k) 1)) in
      omega (arith, uses_run k (suc k) kl, at_other k 1 (suc k) (omega arith), i, at_other (k + 2) 1 (suc k) (omega arith))

  run_last : uses k (suc (suc k)) ≡ 1
  run_last = let i : at_kind (k + 2) 1 (suc (suc k)) ≡ 1 = (let q : k + 2 ≡ suc (suc k) = omega arith in rw q (at_same (suc (suc k)) 1)) in
      omega (arith, uses_run k (suc (suc k)) kl, at_other k 1 (suc (suc k)) (omega arith), at_other (k + 1) 1 (suc (suc k)) (omega arith), i)

  run_not : (j : ℕ) → (j < k) ⊎ (k + 3 ≤ j) → uses k j ≡ 0
  run_not j h = ⊎_elim
      (λ l. omega (arith, uses_run k j kl, at_other k 1 j (omega arith), at_other (k + 1) 1 j (omega arith), at_other (k + 2) 1 j (omega arith)))
      (λ l. omega (arith, uses_run k j kl, at_other k 1 j (omega arith), at_other (k + 1) 1 j (omega arith), at_other (k + 2) 1 j (omega arith)))
      h

  group_k : 0 < x_of e → is_group k ≡ true
  unfolding is_group
  group_k h = rw (lt-ltb k 34 kl) (begun.2 h)

  group_34 : 0 < y_of e → is_group (34 + k) ≡ true
  unfolding is_group
  group_34 h = rw (le-ltb (34 + k) 34 (omega arith)) (lt-ltb (34 + k) 68 (omega arith))

  tiles' : (j : ℕ) → j < suc k → get_or w j 0 ≡ at_kind pair'.to (2 * (B.q + z_of e)) j + used_by codes' j
  tiles' j l = ⊎_elim
      (λ q. rw q (omega (arith, u, taken_regular k s e B.low, B.now, used' k 1 3 (2 * z_of e) run_same (at_same k 3) (at_same k (2 * z_of e)))))
      (λ i. omega (arith, B.tiles j i, used' j 0 0 0 (run_not j (inl i)) (at_other k 3 j (omega arith)) (at_other k (2 * z_of e) j (omega arith))))
      (eq-or-lt_of_le (le_of_suc-le-suc l))

  -- one choice more
  pub built_more : Built G (suc k) r w
  unfolding codes'
  built_more = record {
    low = read'.low;
    codes = codes';
    groups = rep_groups (x_of e) k _ group_k (rep_groups (y_of e) (34 + k) _ group_34 B.groups);
    pair = pair'.to;
    kind = pair'.kind;
    q = B.q + z_of e;
    size = omega (arith, rep_length (x_of e) k (rep (y_of e) (34 + k) B.codes), rep_length (y_of e) (34 + k) B.codes, B.size, read'.groups, begun.0);
    one = omega (arith, B.one, read'.pairs, begun.1);
    tiles = tiles';
    now =
        omega (
          arith,
          used' (suc k) 1 0 0 run_next (at_other k 3 (suc k) (omega arith))
              (at_other k (2 * z_of e) (suc k) (omega arith)),
          B.soon,
          read'.runs_a,
          read'.runs_b,
        );
    soon =
        omega (
          arith,
          used' (suc (suc k)) 1 0 0 run_last (at_other k 3 (suc (suc k)) (omega arith))
              (at_other k (2 * z_of e) (suc (suc k)) (omega arith)),
          B.later (suc (suc k)) (omega arith),
          read'.runs_a,
        );
    later =
        λ j l. omega (
          arith,
          used' j 0 0 0 (run_not j (inr (omega arith))) (at_other k 3 j (omega arith)) (at_other k (2 * z_of e) j (omega arith)),
          B.later j
              (omega arith),
        );
  }

built_begin : (G : ℕ) (w : List ℕ) → G ≤ 4 → Built G 0 (state 0 0 G 1) w
unfolding used_by
built_begin G w h =
    let r = state_read 0 0 G 1 (omega arith) (omega arith) in
    record {
      low = r.low;
      codes = [];
      groups = tt;
      pair = 0;
      kind = omega arith;
      q = 0;
      size = omega (arith, r.groups);
      one = omega (arith, r.pairs);
      tiles = λ j l. absurd (omega arith);
      now = omega (arith, at_none 0 0, r.runs_a, r.runs_b);
      soon = omega (arith, at_none 0 1, r.runs_a);
      later = λ j l. omega (arith, at_none 0 j);
    }

pub built : (G : ℕ) (d w : List ℕ) (k s : ℕ) → G ≤ 4 → k ≤ 34 → Reach (state 0 0 G 1) d w k s → Built G k s w
built G d w _ _ h l begin = built_begin G w h
built G d w _ _ h l (move {k} {s} {r} p e g f u q) = built_more G k s e r d w l (built G d w k s h (omega arith) p) f u q
