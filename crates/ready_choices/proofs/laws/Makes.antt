-- What each function of a choice returns is that choice.
use Rattle.std.specs.Prelude.{◌≡◌, refl, Bool, true, false, ◌&&◌, ◌||◌, not, cond, Some, None, [], ◌∷◌, ℕ, zero, suc, ◌+◌, ◌-◌, ◌*◌, ◌≤◌, ◌<◌, min, leb, eqb, get_or}
use Rattle.std.proofs.Common.{sym, ◌∙◌, arith}
use Rattle.std.proofs.lemmas.Bool.{false≢true}
use borrow.Author.Tests.{lt-ltb, le-ltb, leb-true, eqb-true, eqb-false, not-true}
use Rattle.tiles.specs.Kinds.{is_run_start, is_yaochu}
use Rattle.tiles.proofs.laws.Below.{and_true, every_at}
use Rattle.tiles.specs.Below.{all_below}
use Rattle.ready_choices.specs.declared.Begun.{Begun}
use Rattle.ready_choices.specs.declared.Move.{Move}
use Rattle.ready_choices.specs.declared.TheConstants.{CHOICES}
use Rattle.ready_choices.specs.search.Moves.{a_of, b_of, g_of, p_of, x_of, y_of, z_of, state, may, kept}
use Rattle.ready_choices.specs.search.Made.{takes, IsMove, Makes, value_of}
use Rattle.ready_choices.proofs.laws.Reach.{kept_more}
use Rattle.ready_choices.proofs.laws.State.{state_read, state_small}
use Rattle.ready_choices.proofs.laws.Special.{next_special, taken_pairs, taken_orphans}
use Rattle.ready_choices.proofs.laws.Regular.{taken_regular, next_regular}

-- ---- seven pairs
module _ (k s e : ℕ) (lo : 70 ≤ s) (hi : s < 78) where
  pub may_is_pairs : may k s e ≡ leb e 1 && leb e (s - 70)
  unfolding may
  may_is_pairs = rw (le-ltb s 70 lo, lt-ltb s 78 hi)

  pub makes_pairs : leb e 1 && leb e (s - 70) ≡ true → Makes k s e (Some (record { to = s - e; tiles = 2 * e }))
  makes_pairs h = record {
    may_be = may_is_pairs ∙ h;
    to = sym (next_special k s e lo);
    tiles = sym (taken_pairs k s e lo hi);
    low = omega arith;
  }

  pub makes_no_pairs : leb e 1 && leb e (s - 70) ≡ false → Makes k s e None
  makes_no_pairs h = may_is_pairs ∙ h

-- ---- thirteen orphans
module _ (k s e : ℕ) (y : Bool) (lo : 78 ≤ s) (hi : s < 80) (q : y ≡ is_yaochu k) where
  may_is_orphans : may k s e ≡ leb e 1 && leb e (s - 78) && (eqb e 0 || y)
  unfolding may
  may_is_orphans = rw (le-ltb s 70 (omega arith), le-ltb s 78 lo, q)

  pub makes_orphans : leb e 1 && leb e (s - 78) && (eqb e 0 || y) ≡ true → y ≡ true → Makes k s e (Some (record { to = s - e; tiles = 1 + e }))
  makes_orphans h t = record {
    may_be = may_is_orphans ∙ h;
    to = sym (next_special k s e (omega arith));
    tiles = sym (taken_orphans k s e (omega arith) lo ∙ rw (sym q ∙ t));
    low = omega arith;
  }

  pub makes_others : leb e 1 && leb e (s - 78) && (eqb e 0 || y) ≡ true → y ≡ false → Makes k s e (Some (record { to = s - e; tiles = 0 }))
  makes_others h t = record {
    may_be = may_is_orphans ∙ h;
    to = sym (next_special k s e (omega arith));
    tiles = sym (taken_orphans k s e (omega arith) lo ∙ rw (sym q ∙ t));
    low = omega arith;
  }

  pub makes_no_orphans : leb e 1 && leb e (s - 78) && (eqb e 0 || y) ≡ false → Makes k s e None
  makes_no_orphans h = may_is_orphans ∙ h

pub orphans_one : (s e : ℕ) (y : Bool) → leb e 1 && leb e (s - 78) && (eqb e 0 || y) ≡ true → (e ≤ 1) × (e ≤ s - 78)
orphans_one s e y h =
    let a = and_true (leb e 1 && leb e (s - 78)) (eqb e 0 || y) h in
    let b = and_true (leb e 1) (leb e (s - 78)) a.0 in
    (leb-true _ _ b.0, leb-true _ _ b.1)

pub pairs_one : (s e : ℕ) → leb e 1 && leb e (s - 70) ≡ true → (e ≤ 1) × (e ≤ s - 70)
pairs_one s e h =
    let b = and_true (leb e 1) (leb e (s - 70)) h in
    (leb-true _ _ b.0, leb-true _ _ b.1)

-- ---- a regular hand
low_choice : ℕ → Bool
low_choice e = leb (x_of e) 4 && (leb (y_of e) 1 && leb (z_of e) 1)

low_choices : all_below 10 low_choice ≡ true
unfolding all_below low_choice x_of y_of z_of
low_choices = refl

-- a choice has four runs, one triplet, one pair at most
pub choice_small : (e : ℕ) → e < 10 → (x_of e ≤ 4) × (y_of e ≤ 1) × (z_of e ≤ 1)
unfolding low_choice
choice_small e l =
    let a = and_true (leb (x_of e) 4) (leb (y_of e) 1 && leb (z_of e) 1) (every_at low_choice 10 e low_choices l) in
    let b = and_true (leb (y_of e) 1) (leb (z_of e) 1) a.1 in
    (leb-true _ _ a.0, leb-true _ _ b.0, leb-true _ _ b.1)

module _ (k s e : ℕ) (y : Bool) (lo : s < 70) (q : y ≡ is_run_start k) where
  may_is_regular : may k s e ≡ leb (x_of e + y_of e) (g_of s) && leb (z_of e) (p_of s) && (eqb (x_of e) 0 || y)
  unfolding may
  may_is_regular = rw (lt-ltb s 70 lo, q)

  pub regular_begun : leb (x_of e + y_of e) (g_of s) && leb (z_of e) (p_of s) && (eqb (x_of e) 0 || y) ≡ true → (x_of e + y_of e ≤ g_of s) × (z_of e ≤ p_of s)
  regular_begun h =
      let a = and_true (leb (x_of e + y_of e) (g_of s) && leb (z_of e) (p_of s)) (eqb (x_of e) 0 || y) h in
      let b = and_true (leb (x_of e + y_of e) (g_of s)) (leb (z_of e) (p_of s)) a.0 in
      (leb-true _ _ b.0, leb-true _ _ b.1)

  pub makes_regular : leb (x_of e + y_of e) (g_of s) && leb (z_of e) (p_of s) && (eqb (x_of e) 0 || y) ≡ true →
      IsMove k s e (record {
        to = state (x_of e) (a_of s) (g_of s - (x_of e + y_of e)) (p_of s - z_of e);
        tiles = a_of s + b_of s + x_of e + 3 * y_of e + 2 * z_of e;
      })
  makes_regular h =
      let (a, b) = regular_begun h in
      let r = state_read (x_of e) (a_of s) (g_of s - (x_of e + y_of e)) (p_of s - z_of e) (omega (arith, state_small s lo)) (omega arith) in
      record {
        may_be = may_is_regular ∙ h;
        to = sym (next_regular k s e lo);
        tiles = sym (taken_regular k s e lo);
        low = omega (arith, r.low);
      }

  pub makes_no_regular : leb (x_of e + y_of e) (g_of s) && leb (z_of e) (p_of s) && (eqb (x_of e) 0 || y) ≡ false
      → Makes k s e None
  makes_no_regular h = may_is_regular ∙ h

-- the same by the parts that the code has read
pub regular_test : (x y g z p : ℕ) (b : Bool) → leb (x + y) g && leb z p && b ≡ true → (x + y ≤ g) × (z ≤ p)
regular_test x y g z p b h =
    let a = and_true (leb (x + y) g && leb z p) b h in
    let q = and_true (leb (x + y) g) (leb z p) a.0 in
    (leb-true _ _ q.0, leb-true _ _ q.1)

module _ (k e x y z : ℕ) (u : Begun) (t : Bool) (lo : u.state < 70) (q : t ≡ is_run_start k) (ex : x ≡ x_of e) (ey : y ≡ y_of e) (ez : z ≡ z_of e) where
  pub makes_read : leb (x + y) u.groups && leb z u.pairs && (eqb x 0 || t) ≡ true → IsMove k u.state e (takes u x y z)
  unfolding takes
  makes_read h =
      rw (u.runs_a lo, u.runs_b lo, u.left lo, u.pair lo, ex, ey, ez) (makes_regular k u.state e t lo q (rw (u.left lo, u.pair lo, ex, ey, ez) at h))

  pub makes_unreadable : leb (x + y) u.groups && leb z u.pairs && (eqb x 0 || t) ≡ false → may k u.state e ≡ false
  makes_unreadable h = makes_no_regular k u.state e t lo q (rw (u.left lo, u.pair lo, ex, ey, ez) at h)

-- ---- the table of choices
parts : (e : ℕ) → e < 10 → get_or CHOICES e [] ≡ x_of e ∷ y_of e ∷ z_of e ∷ []
unfolding x_of y_of z_of
parts zero h = refl
parts (suc zero) h = refl
parts (suc (suc zero)) h = refl
parts (suc (suc (suc zero))) h = refl
parts (suc (suc (suc (suc zero)))) h = refl
parts (suc (suc (suc (suc (suc zero))))) h = refl
parts (suc (suc (suc (suc (suc (suc zero)))))) h = refl
parts (suc (suc (suc (suc (suc (suc (suc zero))))))) h = refl
parts (suc (suc (suc (suc (suc (suc (suc (suc zero)))))))) h = refl
parts (suc (suc (suc (suc (suc (suc (suc (suc (suc zero))))))))) h = refl
parts (suc (suc (suc (suc (suc (suc (suc (suc (suc (suc e)))))))))) h = absurd (omega arith)

pub read_parts : (e i : ℕ) → i ≡ e → e < 10
    → (get_or (get_or CHOICES i []) 0 0 ≡ x_of e) × (get_or (get_or CHOICES i []) 1 0 ≡ y_of e) × (get_or (get_or CHOICES i []) 2 0 ≡ z_of e)
read_parts e i q h = rw (q, parts e h) (refl, refl, refl)

-- ---- the value of a move
pub kept_zero : (x : ℕ) → kept 0 x ≡ 0
unfolding kept
kept_zero x = refl

pub value_with : (m : Move) (later have room x : ℕ) → leb m.tiles room && not (eqb later 0) ≡ true → x ≡ min have m.tiles → later + x ≡ value_of m later have room
unfolding value_of
value_with m later have room x h q =
    let a = and_true (leb m.tiles room) (not (eqb later 0)) h in
    let n : later ≡ 0 → ⊥ = eqb-false later 0 (not-true (eqb later 0) a.1) in
    rw (a.0, q) (sym (kept_more later (min have m.tiles) (omega arith)))

pub value_without : (m : Move) (later have room : ℕ) → leb m.tiles room && not (eqb later 0) ≡ false → 0 ≡ value_of m later have room
unfolding value_of
value_without m later have room h = go (leb m.tiles room) (eqb later 0) refl h
  where
    go : (a b : Bool) → eqb later 0 ≡ b → a && not b ≡ false → 0 ≡ cond a (kept later (min have m.tiles)) 0
    go false b e h = refl
    go true true e h = let q : later ≡ 0 = eqb-true later 0 e in rw q (sym (kept_zero (min have m.tiles)))
    go true false e h = absurd (false≢true (sym h))
