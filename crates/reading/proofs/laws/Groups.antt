-- What is true of groups and of taking one off a tally.
use Rattle.std.specs.Prelude.{◌≡◌, refl, Bool, ◌&&◌, ◌||◌, cond, ◌⊎◌, List, [], ◌∷◌, ℕ, zero, suc, ◌+◌, ◌-◌, ◌%◌, ◌≤◌, ◌<◌, ltb, eqb, length, get_or}
use Rattle.std.proofs.Common.{sym, inl, inr, ⊎_elim, suc-le-suc, zero-le, not-suc-le-zero, arith, length-set}
use Rattle.std.proofs.Math.Bool.{true, false}
use borrow.Author.Tests.{lt-ltb, le-ltb, le-leb, eq-eqb, ne_eqb, ltb-true, ltb-false, leb-true, eqb-true, eqb-false}
use Rattle.std.proofs.Math.Dec.{leb}
use Rattle.std.proofs.Math.ListN.{get_or-eq_default}
use Rattle.std.proofs.Math.Seq.{get_or-set_same, get_or-set_other}
use Rattle.tiles.specs.Groups.{is_group, at_kind, uses}
use Rattle.tiles.proofs.laws.Below.{every_at, every_of, and_true}
use Rattle.tiles.proofs.laws.Tabulate.{get_d_any}
use Rattle.reading.specs.Reading.{used_by, Ascends, holds}
use Rattle.reading.specs.search.Readings.{is_empty, less, fits, without, passes}

-- ---- codes
pub run_in : (c : ℕ) → is_group c ≡ true → c < 34 → (c < 27) × (c % 9 ≤ 6)
unfolding is_group
run_in c e h =
    let both = and_true (ltb c 27) (leb (c % 9) 6) (rw (lt-ltb c 34 h) at e) in
    (ltb-true c 27 both.0, leb-true (c % 9) 6 both.1)

pub triplet_in : (c : ℕ) → is_group c ≡ true → 34 ≤ c → c < 68
unfolding is_group
triplet_in c e h = ltb-true c 68 (rw (le-ltb c 34 h) at e)

-- the case of a code: a run's or a triplet's
pub run_or : {P : Type 0} (c : ℕ) → (c < 34 → P) → (34 ≤ c → P) → P
run_or {P} c f g = go (ltb c 34) refl
  where
    go : (b : Bool) → ltb c 34 ≡ b → P
    go true e = f (ltb-true c 34 e)
    go false e = g (ltb-false c 34 e)

pub group_in : (c : ℕ) → is_group c ≡ true → c < 68
group_in c e = run_or c (λ h. omega arith) (triplet_in c e)

-- ---- fits
module _ (t : List ℕ) (c : ℕ) (f : fits t c ≡ true) where
  pub fits_group : is_group c ≡ true
  unfolding fits
  fits_group = (and_true (is_group c) _ f).0

  pub fits_run : c < 34 → (1 ≤ get_or t c 0) × (1 ≤ get_or t (c + 1) 0) × (1 ≤ get_or t (c + 2) 0)
  unfolding fits
  fits_run h =
      let all = and_true (leb 1 (get_or t c 0) && leb 1 (get_or t (c + 1) 0)) (leb 1 (get_or t (c + 2) 0)) (rw (lt-ltb c 34 h) at (and_true (is_group c) _ f).1) in
      let two = and_true (leb 1 (get_or t c 0)) (leb 1 (get_or t (c + 1) 0)) all.0 in
      (leb-true 1 _ two.0, leb-true 1 _ two.1, leb-true 1 _ all.1)

  pub fits_triplet : 34 ≤ c → 3 ≤ get_or t (c - 34) 0
  unfolding fits
  fits_triplet h = leb-true 3 _ (rw (le-ltb c 34 h) at (and_true (is_group c) _ f).1)

-- ---- tiles of a kind
pub at_same : (a n : ℕ) → at_kind a n a ≡ n
unfolding at_kind
at_same a n = rw (eq-eqb a a refl)

pub at_other : (a n k : ℕ) → (a ≡ k → ⊥) → at_kind a n k ≡ 0
unfolding at_kind
at_other a n k h = rw (ne_eqb a k h)

pub get_d_pos : (t : List ℕ) (a : ℕ) → 0 < get_or t a 0 → a < length t
get_d_pos [] a h = absurd (not-suc-le-zero h)
get_d_pos (x ∷ t) zero h = suc-le-suc zero-le
get_d_pos (x ∷ t) (suc a) h = suc-le-suc (get_d_pos t a h)

module _ (t : List ℕ) (a n : ℕ) (p : 0 < n) (h : n ≤ get_or t a 0) (k : ℕ) where
  less_case : (b : Bool) → eqb a k ≡ b → get_or t k 0 ≡ at_kind a n k + get_or (less t a n) k 0
  unfolding at_kind less
  less_case true e = rw (e, ← eqb-true a k e, get_or-set_same t a (get_or t a 0 - n) 0 (get_d_pos t a (omega arith))) (omega arith)
  less_case false e = rw (e, get_or-set_other t a k (get_or t a 0 - n) 0 (λ q. eqb-false a k e (sym q))) (omega arith)

  -- a tally is what is taken off and what is left
  pub less_at : get_or t k 0 ≡ at_kind a n k + get_or (less t a n) k 0
  less_at = less_case (eqb a k) refl

pub less_long : (t : List ℕ) (a n : ℕ) → length t ≡ 34 → length (less t a n) ≡ 34
unfolding less
less_long t a n l = rw length-set l

pub without_long : (t : List ℕ) (c : ℕ) → length t ≡ 34 → length (without t c) ≡ 34
unfolding without less
without_long t c l = run_or c (λ h. simp (lt-ltb c 34 h, length-set) l) (λ h. simp (le-ltb c 34 h, length-set) l)

-- a tally is a group that fits it and what is left without
pub without_at : (t : List ℕ) (c : ℕ) → fits t c ≡ true → (k : ℕ) → get_or t k 0 ≡ uses c k + get_or (without t c) k 0
unfolding uses without
without_at t c f k =
    run_or c
    (λ h.
    let (a, b, d) = fits_run t c f h in
    let t1 = less t c 1 in
    let t2 = less t1 (c + 1) 1 in
    let one : 0 < 1 = omega arith in
    let b1 : 1 ≤ get_or t1 (c + 1) 0 = omega (arith, less_at t c 1 one a (c + 1), at_other c 1 (c + 1) (omega arith)) in
    let d1 : 1 ≤ get_or t1 (c + 2) 0 = omega (arith, less_at t c 1 one a (c + 2), at_other c 1 (c + 2) (omega arith)) in
    let d2 : 1 ≤ get_or t2 (c + 2) 0 = omega (arith, less_at t1 (c + 1) 1 one b1 (c + 2), at_other (c + 1) 1 (c + 2) (omega arith)) in
    rw (lt-ltb c 34 h) (omega (arith, less_at t c 1 one a k, less_at t1 (c + 1) 1 one b1 k, less_at t2 (c + 2) 1 one d2 k)))
    (λ h. rw (le-ltb c 34 h) (less_at t (c - 34) 3 (omega arith) (fits_triplet t c f h) k))

-- a group whose tiles a tally has fits it
pub fits_of : (t : List ℕ) (c : ℕ) → is_group c ≡ true → ((k : ℕ) → uses c k ≤ get_or t k 0) → fits t c ≡ true
unfolding uses fits
fits_of t c g u =
    run_or c
    (λ h.
    let u0 = rw (lt-ltb c 34 h) at (u c) in
    let u1 = rw (lt-ltb c 34 h) at (u (c + 1)) in
    let u2 = rw (lt-ltb c 34 h) at (u (c + 2)) in
    simp (
      g,
      lt-ltb c 34 h,
      le-leb 1 (get_or t c 0) (omega (arith, u0, at_same c 1)),
      le-leb 1 (get_or t (c + 1) 0) (omega (arith, u1, at_same (c + 1) 1)),
      le-leb 1 (get_or t (c + 2) 0) (omega (arith, u2, at_same (c + 2) 1)),
    ))
    (λ h.
    let u0 = rw (le-ltb c 34 h) at (u (c - 34)) in
    simp (g, le-ltb c 34 h, le-leb 3 (get_or t (c - 34) 0) (omega (arith, u0, at_same (c - 34) 3))))

-- ---- passes
at_either : (a n k : ℕ) (b : Bool) → eqb a k ≡ b → (at_kind a n k ≡ 0) ⊎ (at_kind a n k ≡ n)
unfolding at_kind
at_either a n k true e = inr (rw e)
at_either a n k false e = inl (rw e)

later_run : (g c : ℕ) → c < g → c < 34 → (uses g c ≡ 0) ⊎ (uses g c ≡ 3)
unfolding uses
later_run g c h l =
    run_or g
    (λ r. inl (rw (lt-ltb g 34 r) (omega (arith, at_other g 1 c (omega arith), at_other (g + 1) 1 c (omega arith), at_other (g + 2) 1 c (omega arith)))))
    (λ r. rw (le-ltb g 34 r) (at_either (g - 34) 3 c (eqb (g - 34) c) refl))

later_triplet : (g c : ℕ) → c < g → 34 ≤ c → uses g (c - 34) ≡ 0
unfolding uses
later_triplet g c h l = rw (le-ltb g 34 (omega arith)) (at_other (g - 34) 3 (c - 34) (omega arith))

used_by_threes : (gs : List ℕ) (c d : ℕ) → Ascends d gs → c < d → c < 34 → used_by gs c % 3 ≡ 0
unfolding used_by
used_by_threes [] c d o h l = refl
used_by_threes (g ∷ gs) c d o h l =
    let r = used_by_threes gs c g o.2 (omega (arith, o.0)) l in
    ⊎_elim (λ e. omega arith) (λ e. omega arith) (later_run g c (omega (arith, o.0)) l)

used_by_none : (gs : List ℕ) (c d : ℕ) → Ascends d gs → c < d → 34 ≤ c → used_by gs (c - 34) ≡ 0
unfolding used_by
used_by_none [] c d o h l = refl
used_by_none (g ∷ gs) c d o h l =
    omega (arith, used_by_none gs c g o.2 (omega (arith, o.0)) l, later_triplet g c (omega (arith, o.0)) l)

-- what groups past c make, passes
pub passes_of : (t gs : List ℕ) (c d : ℕ) → ((k : ℕ) → get_or t k 0 ≡ used_by gs k) → Ascends d gs → c < d → passes t c ≡ true
unfolding passes
passes_of t gs c d e o h =
    run_or c
    (λ l. simp (lt-ltb c 34 l, e c, eq-eqb (used_by gs c % 3) 0 (used_by_threes gs c d o h l)))
    (λ l. simp (le-ltb c 34 l, e (c - 34), eq-eqb (used_by gs (c - 34)) 0 (used_by_none gs c d o h l)))

-- ---- no tile left
pub empty_at : (t : List ℕ) → length t ≡ 34 → is_empty t ≡ true → (k : ℕ) → get_or t k 0 ≡ 0
unfolding is_empty
empty_at t l e k = go (ltb k 34) refl
  where
    go : (b : Bool) → ltb k 34 ≡ b → get_or t k 0 ≡ 0
    go true q = eqb-true _ 0 (every_at (λ j. eqb (get_or t j 0) 0) 34 k e (ltb-true k 34 q))
    go false q = get_or-eq_default t 0 (omega (arith, l, ltb-false k 34 q))

pub empty_of : (t : List ℕ) → ((k : ℕ) → get_or t k 0 ≡ 0) → is_empty t ≡ true
unfolding is_empty
empty_of t h = every_of (λ j. eqb (get_or t j 0) 0) 34 (λ k l. eq-eqb _ 0 (h k))

-- ---- a group has a tile of a kind
leb_any : (a b c : Bool) → leb 1 (cond a 1 0 + cond b 1 0 + cond c 1 0) ≡ a || b || c
leb_any true true true = refl
leb_any true true false = refl
leb_any true false true = refl
leb_any true false false = refl
leb_any false true true = refl
leb_any false true false = refl
leb_any false false true = refl
leb_any false false false = refl

leb_three : (a : Bool) → leb 1 (cond a 3 0) ≡ a
leb_three true = refl
leb_three false = refl

pub run_has : (g k : ℕ) → g < 34 → leb 1 (uses g k) ≡ eqb g k || eqb (g + 1) k || eqb (g + 2) k
unfolding uses at_kind
run_has g k h = rw (lt-ltb g 34 h) (leb_any (eqb g k) (eqb (g + 1) k) (eqb (g + 2) k))

pub triplet_has : (g k : ℕ) → 34 ≤ g → leb 1 (uses g k) ≡ eqb (g - 34) k
unfolding uses at_kind
triplet_has g k h = rw (le-ltb g 34 h) (leb_three (eqb (g - 34) k))

-- place 0 is the pair's, a later place its group's
pub holds_pair : (pair : ℕ) (gs : List ℕ) (place win : ℕ) → place ≡ 0 → eqb win pair ≡ holds pair gs place win
unfolding holds
holds_pair pair gs place win z = rw z

pub holds_group : (pair : ℕ) (gs : List ℕ) (place win : ℕ) → (place ≡ 0 → ⊥) → place ≤ length gs
    → leb 1 (uses (get_or gs (place - 1) 0) win) ≡ holds pair gs place win
unfolding holds
holds_group pair gs zero win z l = absurd (z refl)
holds_group pair gs (suc i) win z l = let e : suc i - 1 ≡ i = omega arith in rw (e, get_d_any gs i 0 68 l)
