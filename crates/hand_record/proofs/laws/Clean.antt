-- What a refusal of 0 says of a hand.
use Rattle.std.specs.Prelude.{ℕ, ◌*◌, ◌-◌, ◌<◌, ◌≤◌, ◌≡◌, refl, Bool, true, false, ◌||◌, cond, ltb, get_or}
use Rattle.std.proofs.Common.{arith, ltb-false}
use Rattle.tiles.specs.Below.{any_below}
use Rattle.tiles.proofs.laws.Below.{or_both, some_at}
use Rattle.hand.specs.declared.Hand.{Hand}
use Rattle.hand.specs.Held.{some_meld, meld_tile, others, tile_over33, chi_without_run, wrong_held, descends, over_four, unused_not_zero}
use Rattle.hand.specs.Refusals.{field_over33, field_over, wrong_discarder, wrong_fields, too_large, in_record, wrong_situation, refusal_of, unwritable}

pub record Clean (h : Hand) (p : ℕ) : Type 0 where
  pub fields : wrong_fields h p ≡ false
  pub order : descends h.held ≡ false
  pub four : over_four (in_record h) ≡ false
  pub situation : wrong_situation h ≡ false

conds : (a b c d : Bool) → ◌≡◌ {A = ℕ} (cond a 2 (cond b 3 (cond c 4 (cond d 5 0)))) 0 → (a ≡ false) × (b ≡ false) × (c ≡ false) × (d ≡ false)
conds true b c d e = absurd (omega arith)
conds false true c d e = absurd (omega arith)
conds false false true d e = absurd (omega arith)
conds false false false true e = absurd (omega arith)
conds false false false false e = (refl, refl, refl, refl)

pub clean_of : (h : Hand) (p : ℕ) → refusal_of h p ≡ 0 → Clean h p
unfolding refusal_of
clean_of h p e =
    let q = conds (wrong_fields h p) (descends h.held) (over_four (in_record h)) (wrong_situation h) e in
    record { fields = q.0; order = q.1; four = q.2; situation = q.3 }

pub of_clean : (h : Hand) (p : ℕ) → Clean h p → refusal_of h p ≡ 0
unfolding refusal_of
of_clean h p c = rw (c.fields, c.order, c.four, c.situation)

-- past refusal 2 there is no padding bit and no tile over 33
pub record Kinds (h : Hand) (p : ℕ) : Type 0 where
  pub indicator : h.fields.indicator ≤ 33
  pub winning : h.fields.winning ≤ 33
  pub tiles : (i : ℕ) → i < 13 - 3 * h.held.m → get_or h.held.concealed i 0 ≤ 33
  pub padding : p ≡ 0

pub kinds_of : (h : Hand) (p : ℕ) → wrong_fields h p ≡ false → Kinds h p
unfolding wrong_fields wrong_held tile_over33
kinds_of h p e =
    let f = h.fields in
    let x = h.held in
    let q = four (wrong_held x p) (field_over33 f) (field_over f) (wrong_discarder f) e in
    let w = three (tile_over33 x) (chi_without_run x) (ltb 0 p) q.0 in
    let t = (or_both (some_meld x (λ b. ltb 33 (meld_tile b))) (any_below (others x) (λ i. ltb 33 (get_or x.concealed i 0))) w.0).1 in
    let g = or_both (ltb 33 f.indicator) (ltb 33 f.winning) q.1 in
    record {
      indicator = ltb-false 33 f.indicator g.0;
      winning = ltb-false 33 f.winning g.1;
      tiles = λ i l. ltb-false 33 (get_or x.concealed i 0) (some_at (λ j. ltb 33 (get_or x.concealed j 0)) (13 - 3 * x.m) i t l);
      padding = omega (arith, ltb-false 0 p w.1);
    }
  where
    four : (a b c d : Bool) → a || b || c || d ≡ false → (a ≡ false) × (b ≡ false)
    four a b c d x = or_both a b (or_both (a || b) c (or_both (a || b || c) d x).0).0

    three : (a b c : Bool) → a || b || c ≡ false → (a ≡ false) × (c ≡ false)
    three a b c x = let y = or_both (a || b) c x in ((or_both a b y.0).0, y.1)

-- what an accepted hand has
pub record Accepted (h : Hand) : Type 0 where
  pub large : too_large h ≡ false
  pub unused : unused_not_zero h.held ≡ false
  pub clean : Clean h 0

cond_two : (b : Bool) (n : ℕ) → cond b 2 n ≡ 0 → (b ≡ false) × (n ≡ 0)
cond_two true n e = absurd (omega arith)
cond_two false n e = (refl, e)

pub accepted_of : (h : Hand) → unwritable h ≡ 0 → Accepted h
unfolding unwritable
accepted_of h e =
    let p = cond_two (too_large h || unused_not_zero h.held) (refusal_of h 0) e in
    let q = or_both (too_large h) (unused_not_zero h.held) p.0 in
    record { large = q.0; unused = q.1; clean = clean_of h 0 p.1 }
