-- Pao: where the feeders stand, and that a feeder who is found is a seat, and another than the winner.
use Rattle.std.specs.Prelude.{◌≡◌, refl, Bool, true, false, ◌||◌, not, List, [], ◌∷◌, ℕ, zero, suc, ◌+◌, ◌*◌, ◌%◌, ◌≤◌, ◌<◌, ltb, eqb, get_or, set}
use Rattle.std.proofs.Common.{sym, ap, ◌∙◌, arith, ne_eqb, eqb-true, ltb-false, le-ltb}
use Rattle.std.proofs.lemmas.Bool.{false≢true, eqb-false}
use Rattle.tiles.proofs.laws.Below.{or_both}
use Rattle.position.specs.declared.Position.{Position}
use Rattle.position.specs.Ledger.{is_set, feeder_at, feeder_index, wrong_feeder, wrong_pao, liable_in}
use Rattle.position.proofs.laws.Form.{InForm}
use Rattle.position.proofs.laws.Owed.{IsOther, liable_other}

-- ---- where the feeders stand

pub index_28 : (w : ℕ) → feeder_index w 28 ≡ w
index_28 w = omega arith

pub index_29 : (w : ℕ) → feeder_index w 29 ≡ w + 4
index_29 w = omega arith

-- a property of what stands at i, after an element is set
multi_ron_has : (Q : ℕ → Type 0) (l : List ℕ) (p v i : ℕ) → (i ≡ p → Q v) → Q (get_or l i 0) → Q (get_or (set l p v) i 0)
multi_ron_has Q [] p v i new old = old
multi_ron_has Q (x ∷ xs) zero v zero new old = new refl
multi_ron_has Q (x ∷ xs) zero v (suc i) new old = old
multi_ron_has Q (x ∷ xs) (suc p) v zero new old = old
multi_ron_has Q (x ∷ xs) (suc p) v (suc i) new old = multi_ron_has Q xs p v i (λ e. new (ap suc e)) old

-- a feeder that is another seat than the holder is none that is wrong
module _ (holder feeder y : ℕ) (h : holder ≤ 3) (f : feeder ≤ 3) (k : eqb holder feeder ≡ false) where
  named_right : (i : ℕ) → i ≡ 4 * y + holder → wrong_feeder i (1 + feeder) ≡ false
  named_right i e =
      let other = eqb-false holder feeder k in
      rw (le-ltb (1 + 3) (1 + feeder) (omega arith), ne_eqb (1 + feeder) (1 + i % 4) (λ z. other (omega arith)))

  pub multi_ron_right : (l : List ℕ) → ((i : ℕ) → i < 8 → wrong_feeder i (get_or l i 0) ≡ false) → (i : ℕ) → i < 8
      → wrong_feeder i (get_or (set l (4 * y + holder) (1 + feeder)) i 0) ≡ false
  multi_ron_right l r i b = multi_ron_has (λ n. wrong_feeder i n ≡ false) l (4 * y + holder) (1 + feeder) i (named_right i) (r i b)

-- ---- what is not refused with 18

either_yaku : (a b : Bool) (yaku : ℕ) → eqb yaku 28 ≡ a → eqb yaku 29 ≡ b → not (a || b) ≡ false → (28 ≤ yaku) × (yaku ≤ 29)
either_yaku true b yaku p q e = let y = eqb-true yaku 28 p in (omega arith, omega arith)
either_yaku false true yaku p q e = let y = eqb-true yaku 29 q in (omega arith, omega arith)
either_yaku false false yaku p q e = absurd (false≢true (sym e))

pub pao_yaku : (b : Bool) (yaku : ℕ) → b || not (eqb yaku 28 || eqb yaku 29) ≡ false → (28 ≤ yaku) × (yaku ≤ 29)
pao_yaku b yaku e = either_yaku (eqb yaku 28) (eqb yaku 29) yaku refl refl (or_both b (not (eqb yaku 28 || eqb yaku 29)) e).1

pub seats_small : (holder feeder : ℕ) → ltb 3 holder || ltb 3 feeder ≡ false → (holder ≤ 3) × (feeder ≤ 3)
seats_small holder feeder e = let o = or_both (ltb 3 holder) (ltb 3 feeder) e in (ltb-false 3 holder o.0, ltb-false 3 feeder o.1)

-- the holder is another seat, the yaku one of the two, and no feeder is named for them
pub right_pao : (g : Position) (holder feeder yaku : ℕ) → wrong_pao g holder feeder yaku ≡ false
    → (eqb holder feeder ≡ false) × ((28 ≤ yaku) × (yaku ≤ 29)) × (is_set (feeder_at g (feeder_index holder yaku)) ≡ false)
right_pao g holder feeder yaku e =
    let past = or_both (eqb holder feeder || not (eqb yaku 28 || eqb yaku 29)) (is_set (feeder_at g (feeder_index holder yaku))) e in
    ((or_both (eqb holder feeder) (not (eqb yaku 28 || eqb yaku 29)) past.0).0, pao_yaku (eqb holder feeder) yaku past.0, past.1)

-- ---- a feeder that is found

-- a feeder that is not wrong is a seat, and another than the holder
module _ (index n : ℕ) (r : wrong_feeder index n ≡ false) where
  pub feeder_small : n ≤ 4
  feeder_small = ltb-false (1 + 3) n (or_both (ltb (1 + 3) n) (eqb n (1 + index % 4)) r).0

  pub feeder_other : n ≡ 1 + index % 4 → ⊥
  feeder_other = eqb-false n (1 + index % 4) (or_both (ltb (1 + 3) n) (eqb n (1 + index % 4)) r).1

-- the feeder that is found for a winner is a seat, and another
module _ (g : Position) (form : InForm g) (w : ℕ) (small : w ≤ 3) where
  at_index : (yaku : ℕ) → yaku ≤ 29 → (feeder_at g (feeder_index w yaku) ≤ 4) × (feeder_at g (feeder_index w yaku) ≡ 1 + w → ⊥)
  at_index yaku h =
      let index : ℕ = feeder_index w yaku in
      let r = form.feeders index (omega arith) in
      let other = feeder_other index (feeder_at g index) r in
      (feeder_small index (feeder_at g index) r, λ e. other (e ∙ ap (λ (k : ℕ). 1 + k) (omega arith)))

  pub feeder_seat : (dragons winds : Bool) → IsOther w (liable_in g w dragons winds)
  feeder_seat true winds = let p = at_index 28 (omega arith) in liable_other w (feeder_at g (feeder_index w 28)) p.0 p.1
  feeder_seat false true = let p = at_index 29 (omega arith) in liable_other w (feeder_at g (feeder_index w 29)) p.0 p.1
  feeder_seat false false = tt
