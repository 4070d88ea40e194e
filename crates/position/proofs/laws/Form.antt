-- What a game in form, and an open game, has.
use Rattle.std.specs.Prelude.{◌≡◌, refl, Bool, true, false, not, ◌&&◌, ◌||◌, ℕ, zero, suc, ◌+◌, ◌*◌, ◌≤◌, ◌<◌, ltb, leb, eqb, ℤ, pos, negsuc, ◌+ℤ◌}
use Rattle.std.proofs.Common.{sym, ap, ◌∙◌, ⊎_elim, arith}
use borrow.Author.Tests.{ltb-false, le-ltb, leb-true, le-leb, eqb-true, eqb-false, eq-eqb, not-false}
use Rattle.std.specs.Int.Signed.{lt_z, le_z}
use Rattle.tiles.specs.Below.{any, any_below}
use Rattle.tiles.proofs.laws.Below.{or_both, some_at, some_of}
use Rattle.score.proofs.laws.Z.{up, dn, add_law, part_law, parts_eq, lt_z_false, le_lt_z, Within}
use Rattle.position.specs.declared.Position.{Position}
use Rattle.position.specs.Ledger.{points_in_play, last_hand, floor, is_set, score_at, declarations, feeder_at, total_of, eq_z, is_over, wrong_feeder, out_of_form}
use Rattle.position.specs.Ledger.{not_open}
use Rattle.position.proofs.laws.Bounds.{depth, amount, most_sticks}
pub use Rattle.position.specs.search.Form.{InForm, Open, sum_of}

-- ---- tests of integers

pub same_leb : (a b : ℕ) → leb a b && leb b a ≡ eqb a b
same_leb a b = go (eqb a b) refl
  where
    go : (t : Bool) → eqb a b ≡ t → leb a b && leb b a ≡ t
    go true q = let e = eqb-true a b q in rw (le-leb a b (omega arith), le-leb b a (omega arith))
    go false q = apart (leb a b) (leb b a) refl refl
      where
        apart : (x y : Bool) → leb a b ≡ x → leb b a ≡ y → x && y ≡ false
        apart true true u v = absurd (eqb-false a b q (omega (arith, leb-true a b u, leb-true b a v)))
        apart true false u v = refl
        apart false y u v = refl

pub le_le_z : (a b : ℤ) → up a + dn b ≤ up b + dn a → le_z a b ≡ true
le_le_z (pos a) (pos b) h = le-leb a b (omega arith)
le_le_z (pos a) (negsuc b) h = absurd (omega arith)
le_le_z (negsuc a) (pos b) h = refl
le_le_z (negsuc a) (negsuc b) h = le-leb b a (omega arith)

pub eq_z_true : (a b : ℤ) → eq_z a b ≡ true → a ≡ b
eq_z_true (pos a) (pos b) h = ap pos (eqb-true a b (sym (same_leb a b) ∙ h))
eq_z_true (pos a) (negsuc b) h = absurd (let z : ◌≡◌ {A = ℕ} 0 1 = cc in omega arith)
eq_z_true (negsuc a) (pos b) h = absurd (let z : ◌≡◌ {A = ℕ} 0 1 = cc in omega arith)
eq_z_true (negsuc a) (negsuc b) h = ap negsuc (sym (eqb-true b a (sym (same_leb b a) ∙ h)))

pub eq_eq_z : (a b : ℤ) → a ≡ b → eq_z a b ≡ true
eq_eq_z (pos a) (pos b) h = same_leb a b ∙ eq-eqb a b (omega (arith, parts_eq (pos a) (pos b) h))
eq_eq_z (pos a) (negsuc b) h = absurd (omega (arith, parts_eq (pos a) (negsuc b) h))
eq_eq_z (negsuc a) (pos b) h = absurd (omega (arith, parts_eq (negsuc a) (pos b) h))
eq_eq_z (negsuc a) (negsuc b) h = same_leb b a ∙ eq-eqb b a (omega (arith, parts_eq (negsuc a) (negsuc b) h))

-- ---- in form

not_low : (z : ℤ) → lt_z z floor ≡ false → dn z ≤ depth
not_low z h = ⊎_elim (λ (e : up z ≡ 0). omega (arith, lt_z_false z floor h)) (λ (e : dn z ≡ 0). omega arith) (part_law z)

pub low_not : (z : ℤ) → dn z ≤ depth → lt_z z floor ≡ false
low_not z h = le_lt_z z floor (omega arith)

eight : (a b c d e f i k : Bool) → a || b || c || d || e || f || i || not k ≡ false →
    (a ≡ false) × (b ≡ false) × (c ≡ false) × (d ≡ false) × (e ≡ false) × (f ≡ false) × (i ≡ false) × (k ≡ true)
eight a b c d e f i k h =
    let h7 = or_both (a || b || c || d || e || f || i) (not k) h in
    let h6 = or_both (a || b || c || d || e || f) i h7.0 in
    let h5 = or_both (a || b || c || d || e) f h6.0 in
    let h4 = or_both (a || b || c || d) e h5.0 in
    let h3 = or_both (a || b || c) d h4.0 in
    let h2 = or_both (a || b) c h3.0 in
    let h1 = or_both a b h2.0 in
    (h1.0, h1.1, h2.1, h3.1, h4.1, h5.1, h6.1, not-false k h7.1)

eight_none : (a b c d e f i k : Bool) → a ≡ false → b ≡ false → c ≡ false → d ≡ false → e ≡ false → f ≡ false → i ≡ false → k ≡ true
    → a || b || c || d || e || f || i || not k ≡ false
eight_none a b c d e f i k p q r t u v x w = rw (p, q, r, t, u, v, x, w)

module _ (g : Position) where
  -- a score under the floor
  unfoldable lows : Bool
  lows = any 4 (λ i. lt_z (score_at g i) floor)

  -- a feeder that cannot be one
  unfoldable wrongs : Bool
  wrongs = any 8 (λ i. wrong_feeder i (feeder_at g i))

  pub form_of : out_of_form g ≡ false → InForm g
  unfolding out_of_form any_below lows wrongs
  form_of h =
      let p = eight (ltb 3 g.dealer) (ltb 1 g.wind) (ltb last_hand g.hands) (ltb g.sticks (declarations g))
      (ltb g.hands g.counter) wrongs lows (eq_z (total_of g) points_in_play) h in
      record {
        dealer = ltb-false 3 g.dealer p.0;
        wind = ltb-false 1 g.wind p.1;
        hands = ltb-false last_hand g.hands p.2;
        sticks = ltb-false g.sticks (declarations g) p.3;
        counter = ltb-false g.hands g.counter p.4;
        feeders = λ i l. some_at (λ j. wrong_feeder j (feeder_at g j)) 8 i p.5 l;
        low = λ i l. not_low (score_at g i) (some_at (λ j. lt_z (score_at g j) floor) 4 i p.6 l);
        total = eq_z_true (total_of g) points_in_play p.7;
      }

  pub of_form : InForm g → out_of_form g ≡ false
  unfolding out_of_form any_below lows wrongs
  of_form f =
      eight_none (ltb 3 g.dealer) (ltb 1 g.wind) (ltb last_hand g.hands) (ltb g.sticks (declarations g)) (ltb g.hands g.counter) wrongs lows
      (eq_z (total_of g) points_in_play)
      (le-ltb 3 g.dealer f.dealer) (le-ltb 1 g.wind f.wind) (le-ltb last_hand g.hands f.hands)
      (le-ltb g.sticks (declarations g) f.sticks) (le-ltb g.hands g.counter f.counter)
      (some_of (λ j. wrong_feeder j (feeder_at g j)) 8 f.feeders) (some_of (λ j. lt_z (score_at g j) floor) 4 (λ i l. low_not (score_at g i) (f.low i l)))
      (eq_eq_z (total_of g) points_in_play f.total)

-- ---- open

pub open_of : (g : Position) → not_open g ≡ false → Open g
unfolding not_open
open_of g h =
    let p = or_both (is_over g) (out_of_form g) h in
    let q = or_both (is_set g.over) (eqb g.hands last_hand) p.0 in
    let f = form_of g p.1 in
    let n = eqb-false g.hands last_hand q.1 in
    record { form = f; over = q.0; hands = omega (arith, f.hands, n) }

-- ---- the total, as one linear equation of the parts

module _ (a b c d : ℤ) (k : ℕ) where
  pub sum_law : up (sum_of a b c d k) + dn a + dn b + dn c + dn d ≡ up a + up b + up c + up d + 1000 * k + dn (sum_of a b c d k)
  sum_law = omega (arith, add_law a b, add_law (a +ℤ b) c, add_law (a +ℤ b +ℤ c) d, add_law (a +ℤ b +ℤ c +ℤ d) (pos (1000 * k)))

module _ (g : Position) (f : InForm g) where
  total_law : up points_in_play + dn (score_at g 0) + dn (score_at g 1) + dn (score_at g 2) + dn (score_at g 3)
      ≡ up (score_at g 0) + up (score_at g 1) + up (score_at g 2) + up (score_at g 3) + 1000 * g.sticks
  unfolding total_of
  total_law =
      let l = sum_law (score_at g 0) (score_at g 1) (score_at g 2) (score_at g 3) g.sticks in
      let t : sum_of (score_at g 0) (score_at g 1) (score_at g 2) (score_at g 3) g.sticks ≡ points_in_play = f.total in
      omega (arith, rw t at l)

  floors : (dn (score_at g 0) ≤ depth) × (dn (score_at g 1) ≤ depth) × (dn (score_at g 2) ≤ depth) × (dn (score_at g 3) ≤ depth)
  floors = (f.low 0 (omega arith), f.low 1 (omega arith), f.low 2 (omega arith), f.low 3 (omega arith))

  pub few_sticks : g.sticks ≤ most_sticks
  few_sticks = omega (arith, total_law, floors)

  -- each score is an amount
  inside : (z : ℤ) → dn z ≤ depth → up z ≤ 3 * depth + up points_in_play + dn z → Within z amount
  inside z l u = ⊎_elim (λ (e : up z ≡ 0). (omega arith, omega arith)) (λ (e : dn z ≡ 0). (omega arith, omega arith)) (part_law z)

  pub score_within : (i : ℕ) → i < 4 → Within (score_at g i) amount
  score_within zero l = inside (score_at g 0) floors.0 (omega (arith, total_law, floors))
  score_within (suc zero) l = inside (score_at g 1) floors.1 (omega (arith, total_law, floors))
  score_within (suc (suc zero)) l = inside (score_at g 2) floors.2 (omega (arith, total_law, floors))
  score_within (suc (suc (suc zero))) l = inside (score_at g 3) floors.3 (omega (arith, total_law, floors))
  score_within (suc (suc (suc (suc i)))) l = absurd (omega arith)
