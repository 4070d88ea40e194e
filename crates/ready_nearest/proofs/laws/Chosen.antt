-- The best of the choices at a kind, one after the other.
use Rattle.std.specs.Prelude.{◌≡◌, Bool, ◌&&◌, ltb, eqb}
use Rattle.std.proofs.Math.Path.{refl, sym}
use Rattle.std.proofs.Common.{subst, ap, ◌∙◌, lt-ltb, le-ltb, le-leb, leb-true, leb-false, ltb-true, ltb-false}
use Rattle.std.proofs.Math.Bool.{true, false, cond}
use Rattle.std.proofs.lemmas.Bool.{false≢true, lt-leb}
use Prim.Native.Nat.{ℕ, zero, suc, ◌+◌, ◌-◌, ◌*◌, ◌/◌, ◌%◌, ◌≤◌, ◌<◌, min}
use native.Mathlib.Omega.{arith}
use Rattle.std.proofs.Math.Dec.{leb}
use Rattle.ready_choices.specs.declared.Begun.{Begun}
use Rattle.ready_choices.specs.declared.Move.{Move}
use Rattle.ready_nearest.specs.declared.Choice.{Choice}
use Rattle.ready_choices.specs.search.Moves.{g_of, p_of, x_of, y_of, z_of, choices, live, may, taken, next, fine, most, kept, worth}
use Rattle.ready_choices.specs.search.Made.{tries_of, IsMove, value_of}
use Rattle.ready_nearest.specs.search.Found.{Got, Chose}
use Rattle.ready_choices.proofs.laws.Most.{most_none, most_more, most_le}
use Rattle.ready_choices.proofs.laws.Reach.{kept_more, fine_of}
use Rattle.ready_choices.proofs.laws.Makes.{kept_zero}
use Rattle.ready_choices.proofs.laws.Built.{may_begun}
use Rattle.tiles.specs.Kinds.{is_run_start}
use Rattle.tiles.specs.Below.{all_below}
use Rattle.tiles.proofs.laws.Below.{every_at}

module _ (have room : ℕ) (later : ℕ → ℕ) (k s : ℕ) where
  worth_dead : live k s ≡ false → (e : ℕ) → worth have room later k s e ≡ 0
  unfolding worth fine
  worth_dead h e = rw h

  -- in a state that a hand cannot be in
  pub chose_dead : live k s ≡ false → Chose have room later k s 10 (record { value = 0; to = 0; tiles = 0 })
  chose_dead h = record {
    value = let q : most 10 (worth have room later k s) ≤ 0 = most_le (worth have room later k s) 10 0 (λ e l. omega (arith, worth_dead h e)) in omega arith;
    got = λ o. absurd (omega arith);
    low = omega arith;
  }

  pub chose_none : Chose have room later k s 0 (record { value = 0; to = 0; tiles = 0 })
  chose_none = record { value = sym (most_none (worth have room later k s)); got = λ o. absurd (omega arith); low = omega arith }

  module _ (l : live k s ≡ true) (e : ℕ) (m : Move) (h : IsMove k s e m) where
    -- a move is worth what its choice is
    pub worth_value : value_of m (later m.to) have room ≡ worth have room later k s e
    unfolding value_of worth fine
    worth_value = let y : may k s e ≡ true = h.may_be in rw (l, y, h.to, h.tiles)

    -- a move that is worth something
    got_of : (b : Bool) → leb m.tiles room ≡ b → (v : ℕ) → v ≡ value_of m (later m.to) have room → 1 ≤ v → e < 10 →
        Got have room later k s (record { value = v; to = m.to; tiles = m.tiles })
    unfolding value_of
    got_of true r v u p i =
        let w : v ≡ kept (later m.to) (min have m.tiles) = u ∙ rw r in
        let z : 1 ≤ later m.to = some (later m.to) (min have m.tiles) (omega arith) in
        let n : v ≡ later m.to + min have m.tiles = w ∙ kept_more (later m.to) (min have m.tiles) z in
        record {
          e = e;
          low = i;
          fits = fine_of room k s e l h.may_be (rw h.tiles at (leb-true m.tiles room r));
          to = h.to;
          tiles = h.tiles;
          more = rw h.to at z;
          value = rw (h.to, h.tiles) at n;
        }
      where
        some : (a x : ℕ) → 1 ≤ kept a x → 1 ≤ a
        some zero x o = absurd (omega (arith, kept_zero x))
        some (suc a) x o = omega arith
    got_of false r v u p i = let z : v ≡ 0 = u ∙ rw r in absurd (omega arith)

    -- a better one is kept
    pub chose_with : (b : Choice) (v : ℕ) → e < 10 → v ≡ value_of m (later m.to) have room → b.value < v → Chose have room later k s e b →
        Chose have room later k s (e + 1) (record { value = v; to = m.to; tiles = m.tiles })
    chose_with b v i u p c = record {
      value = rw (most_more (worth have room later k s) e) (omega (arith, u, worth_value, c.value));
      got = λ o. got_of (leb m.tiles room) refl v u o i;
      low = h.low;
    }

    -- any other is not
    pub chose_without : (b : Choice) (v : ℕ) → v ≡ value_of m (later m.to) have room → v ≤ b.value → Chose have room later k s e b
        → Chose have room later k s (e + 1) b
    chose_without b v u p c = record {
      value = rw (most_more (worth have room later k s) e) (omega (arith, u, worth_value, c.value));
      got = c.got;
      low = c.low;
    }

-- ---- choices that cannot be made are passed over
pub may_not : (k s e : ℕ) → s < 70 → (x_of e + y_of e ≤ g_of s → z_of e ≤ p_of s → (0 < x_of e → is_run_start k ≡ true) → ⊥) → may k s e ≡ false
may_not k s e l h = go (may k s e) refl
  where
    go : (b : Bool) → may k s e ≡ b → may k s e ≡ false
    go true q = let (x, y, z) = may_begun k s e l q in absurd (h x y z)
    go false q = q

pub special_may : (k s e : ℕ) → 70 ≤ s → 2 ≤ e → may k s e ≡ false
unfolding may
special_may k s e l h = rw (le-ltb s 70 l, lt-leb e 1 h) (either (ltb s 78))
  where
    either : (b : Bool) → cond b false false ≡ false
    either true = refl
    either false = refl

module _ (have room : ℕ) (later : ℕ → ℕ) (k s : ℕ) where
  worth_none : (e : ℕ) → may k s e ≡ false → worth have room later k s e ≡ 0
  unfolding worth fine
  worth_none e h = go (live k s)
    where
      go : (b : Bool) → cond (b && (may k s e && leb (taken k s e) room)) (kept (later (next s e)) (min have (taken k s e))) 0 ≡ 0
      go true = rw h
      go false = refl

  pass_n : (n i : ℕ) → ((e : ℕ) → i ≤ e → e < i + n → may k s e ≡ false) → most i (worth have room later k s) ≡ most (i + n) (worth have room later k s)
  pass_n zero i h = let q : i + 0 ≡ i = omega arith in rw q
  pass_n (suc n) i h =
      let q : i + suc n ≡ i + n + 1 = omega arith in
      let x = worth_none (i + n) (h (i + n) (omega arith) (omega arith)) in
      rw (q, most_more (worth have room later k s) (i + n)) (omega (arith, pass_n n i (λ e a b. h e a (omega arith))))

  -- choices that cannot be made are worth nothing
  pub pass : (i j : ℕ) → i ≤ j → ((e : ℕ) → i ≤ e → e < j → may k s e ≡ false) → most i (worth have room later k s) ≡ most j (worth have room later k s)
  pass i j l h =
      let q : i + (j - i) ≡ j = omega arith in
      subst (λ (x : ℕ). most i (worth have room later k s) ≡ most x (worth have room later k s)) q (pass_n (j - i) i (λ e x y. h e x (omega arith)))

  -- so the best stays
  pub chose_not : (e : ℕ) (b : Choice) → may k s e ≡ false → Chose have room later k s e b → Chose have room later k s (e + 1) b
  chose_not e b n h = record {
    value = h.value ∙ pass e (e + 1) (omega arith) (λ i x y. let q : i ≡ e = omega arith in rw q n);
    got = h.got;
    low = h.low;
  }

-- past the choices that the groups left allow, and past the first three where no run begins
more_groups : ℕ → Bool
more_groups c = cond (leb (choices (c / 10)) (c % 10)) (ltb (c / 10) (x_of (c % 10) + y_of (c % 10))) true

more_all : all_below 50 more_groups ≡ true
unfolding all_below more_groups choices x_of y_of
more_all = refl

pub over_groups : (g e : ℕ) → g ≤ 4 → e < 10 → choices g ≤ e → g < x_of e + y_of e
unfolding more_groups
over_groups g e h l i =
    let c = 10 * g + e in
    let cg : c / 10 ≡ g = omega arith in
    let ce : c % 10 ≡ e = omega arith in
    let q = rw (cg, ce, le-leb (choices g) e i) at (every_at more_groups 50 c more_all (omega arith)) in
    ltb-true _ _ q

begins : ℕ → Bool
begins e = cond (leb 3 e) (ltb 0 (x_of e)) true

begins_all : all_below 10 begins ≡ true
unfolding all_below begins x_of
begins_all = refl

pub begins_run : (e : ℕ) → e < 10 → 3 ≤ e → 0 < x_of e
unfolding begins
begins_run e l h = ltb-true _ _ (rw (le-leb 3 e h) at (every_at begins 10 e begins_all l))

tries_regular : (k s g : ℕ) → s < 70 → tries_of k s g ≡ cond (is_run_start k) (choices g) (min 3 (choices g))
unfolding tries_of
tries_regular k s g l = rw (lt-ltb s 70 l)

tries_special : (k s g : ℕ) → 70 ≤ s → tries_of k s g ≡ 2
unfolding tries_of
tries_special k s g l = rw (le-ltb s 70 l)

pub choices_low : (g : ℕ) → choices g ≤ 10
unfolding choices
choices_low g = below (eqb g 0) (eqb g 1) (eqb g 2) (eqb g 3)
  where
    below : (a b c d : Bool) → cond a 2 (cond b 5 (cond c 8 (cond d 9 10))) ≤ 10
    below true b c d = omega arith
    below false true c d = omega arith
    below false false true d = omega arith
    below false false false true = omega arith
    below false false false false = omega arith

least_low : (r : Bool) (x : ℕ) → x ≤ 10 → cond r x (min 3 x) ≤ 10
least_low true x h = h
least_low false x h = omega arith

cond_low : (r : Bool) (x y : ℕ) → x ≤ 10 → y ≤ 10 → cond r x y ≤ 10
cond_low true x y h g = h
cond_low false x y h g = g

-- the choices that are tried, for a state of the parts u
module _ (have room : ℕ) (later : ℕ → ℕ) (k s n : ℕ) (u : Begun) (b : Choice) (c : u.state ≡ s) (q : n ≡ tries_of k s u.groups) where
  left : s < 70 → u.groups ≡ g_of s
  left l = u.left (rw c l) ∙ ap g_of c

  tries_low : n ≤ 10
  unfolding tries_of
  tries_low = rw q (cond_low (ltb s 70) _ 2 (least_low (is_run_start k) _ (choices_low u.groups)) (omega arith))

  none_later : (e : ℕ) → n ≤ e → e < 10 → may k s e ≡ false
  none_later e h i = go (ltb s 70) refl
    where
      run : s < 70 → (r : Bool) → is_run_start k ≡ r → cond r (choices u.groups) (min 3 (choices u.groups)) ≤ e → x_of e + y_of e ≤ g_of s
          → (0 < x_of e → is_run_start k ≡ true) → ⊥
      run l true y o x z = let v = over_groups u.groups e (omega (arith, u.sum)) i o in omega (arith, left l)
      run l false y o x z = three (leb 3 e) refl
        where
          three : (w : Bool) → leb 3 e ≡ w → ⊥
          three true p = false≢true (sym y ∙ z (begins_run e i (leb-true 3 e p)))
          three false p = let lt = leb-false 3 e p in let v = over_groups u.groups e (omega (arith, u.sum)) i (omega arith) in omega (arith, left l)

      go : (f : Bool) → ltb s 70 ≡ f → may k s e ≡ false
      go true f =
          let l : s < 70 = ltb-true s 70 f in
          let o : n ≡ cond (is_run_start k) (choices u.groups) (min 3 (choices u.groups)) = q ∙ tries_regular k s u.groups l in
          may_not k s e l (λ x y z. run l (is_run_start k) refl (rw o at h) x z)
      go false f =
          let l : 70 ≤ s = ltb-false s 70 f in
          let o : n ≡ 2 = q ∙ tries_special k s u.groups l in
          special_may k s e l (omega arith)

  pub tries_done : Chose have room later k s n b → Chose have room later k s 10 b
  tries_done h = record { value = h.value ∙ pass have room later k s n 10 tries_low none_later; got = h.got; low = h.low }
