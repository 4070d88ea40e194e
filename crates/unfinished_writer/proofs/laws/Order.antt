-- The order of a writer's refusals, and that the writer refuses what the reader refuses of its bytes.
use Rattle.std.specs.Prelude.{ℕ, ◌≤◌, ◌<◌, ◌≡◌, Bool, ◌||◌, cond, List, length, get_or}
use Rattle.std.proofs.Math.Path.{refl}
use Rattle.std.proofs.Common.{sym, ap, ◌∙◌, arith}
use Rattle.std.proofs.Math.Bool.{true, false}
use Rattle.std.proofs.lemmas.Bool.{false≢true}
use borrow.Author.Tests.{ltb-true, ltb-false, le-ltb}
use Rattle.std.proofs.Math.Dec.{ltb}
use Rattle.tiles.specs.Below.{any_below}
use Rattle.tiles.proofs.laws.Below.{or_both, some_at, some_of, cond_le}
use Rattle.hand.specs.declared.Held.{Held}
use Rattle.hand.specs.Held.{some_meld, meld_tile, others, in_held, tile_over33, chi_without_run, wrong_held, descends, over_four, unused_not_zero}
use Rattle.hand_record.specs.Record.{refusal_in, read_of}
use Rattle.hand_record.proofs.laws.Bounds.{read_le}
use Rattle.hand_record.specs.declared.Written.{Written}
use Rattle.unfinished.specs.Unfinished.{length_of, held_refusal, refusal_of}
use Rattle.unfinished_writer.specs.Write.{unfinished_bytes, unwritable, refusal_after, written_by, buffer_by, written_of, buffer_of, IsHeld}
use Rattle.unfinished_writer.specs.Write.{held_in_record, written_from, buffer_from, InOrder, is_unfit}
use Rattle.unfinished_writer.proofs.laws.Store.{after_refused, after_short, after_none, kept_by, wrote_by}
use Rattle.unfinished_writer.proofs.laws.Round.{length_bytes, refused_so}

-- ---- the order

module _ (x : Held) (buf : List ℕ) (j : ℕ) (k : j ≡ 13 → ⊥) where
  abbrev r : ℕ
  r = refusal_after j x buf

  told : (written_by r x).refusal ≡ r
  told = go r refl (ltb 0 r) refl
    where
      go : (n : ℕ) → r ≡ n → (b : Bool) → ltb 0 n ≡ b → (written_by r x).refusal ≡ r
      go n e true q = sym (ap (λ (w : Written). w.refusal) (kept_by x buf j n e (ltb-true 0 n q)).0) ∙ sym e
      go n e false q =
          let z : r ≡ 0 = e ∙ omega (arith, ltb-false 0 n q) in
          sym (ap (λ (w : Written). w.refusal) (wrote_by x buf j z).0) ∙ sym z

  kept : 0 < (written_by r x).refusal → ((written_by r x).len ≡ 0) × (buffer_by r x buf ≡ buf)
  kept h = let p = kept_by x buf j r refl (omega (arith, told)) in (sym (ap (λ (w : Written). w.len) p.0), sym p.1)

  abbrev n : ℕ
  n = length_of x.m

  is_length : length (unfinished_bytes x) ≡ n
  is_length = length_bytes x

  pub in_order_lem : InOrder j x buf (written_by r x) (buffer_by r x buf)
  in_order_lem = go (ltb 0 j) refl (ltb (length buf) n) refl
    where
      go : (a : Bool) → ltb 0 j ≡ a → (b : Bool) → ltb (length buf) n ≡ b → InOrder j x buf (written_by r x) (buffer_by r x buf)
      go true p b q =
          let some = ltb-true 0 j p in
          let e : (written_by r x).refusal ≡ j = told ∙ after_refused x buf j some in
          record {
            tiles = λ h. e;
            short = (λ z. absurd (k (sym e ∙ z)), λ z. absurd (omega (arith, z.0)));
            accepted = (λ z. absurd (omega (arith, e)), λ z. absurd (omega (arith, z.0)));
            nothing = kept;
          }
      go false p true q =
          let none : j ≡ 0 = omega (arith, ltb-false 0 j p) in
          let less = ltb-true (length buf) n q in
          let e : (written_by r x).refusal ≡ 13 = told ∙ ap (λ (m : ℕ). refusal_after m x buf) none ∙ after_short x buf less in
          record {
            tiles = λ h. absurd (omega arith);
            short = (λ z. (none, omega (arith, is_length)), λ z. e);
            accepted = (λ z. absurd (omega (arith, e)), λ z. absurd (omega (arith, is_length, z.1)));
            nothing = kept;
          }
      go false p false q =
          let none : j ≡ 0 = omega (arith, ltb-false 0 j p) in
          let room = ltb-false (length buf) n q in
          let e : (written_by r x).refusal ≡ 0 = told ∙ ap (λ (m : ℕ). refusal_after m x buf) none ∙ after_none x buf room in
          record {
            tiles = λ h. absurd (omega arith);
            short = (λ z. absurd (omega (arith, e)), λ z. absurd (omega (arith, is_length, z.1)));
            accepted = (λ z. (none, omega (arith, is_length)), λ z. e);
            nothing = kept;
          }

-- ---- no refusal before it is 13

unwritable_le : (x : Held) → unwritable x ≤ 4
unfolding unwritable held_refusal
unwritable_le x =
    cond_le (ltb 4 x.m || unused_not_zero x) 2 _ 4 (omega arith)
    (cond_le (wrong_held x 0) 2 _ 4 (omega arith)
    (cond_le (descends x) 3 _ 4 (omega arith) (cond_le (over_four (in_held x)) 4 0 4 (omega arith) (omega arith))))

pub write_in_order : (x : Held) (buf : List ℕ) → InOrder (unwritable x) x buf (written_of x buf) (buffer_of x buf)
write_in_order x buf = in_order_lem x buf (unwritable x) (λ e. omega (arith, e, unwritable_le x))

pub record_in_order : (s buf : List ℕ) → InOrder (refusal_in (read_of s).answer) (held_in_record s) buf (written_from s buf) (buffer_from s buf)
record_in_order s buf = in_order_lem (held_in_record s) buf (refusal_in (read_of s).answer) (λ e. omega (arith, e, read_le s))

-- ---- as the reader refuses

module _ (x : Held) where
  abbrev over : ℕ → Bool
  over n = any_below (others x) (λ i. ltb n (get_or x.concealed i 0))

  none_over : wrong_held x 0 ≡ false → over 63 ≡ false
  unfolding wrong_held tile_over33
  none_over e =
      let t = (or_both (tile_over33 x) (chi_without_run x) (or_both (tile_over33 x || chi_without_run x) (ltb 0 0) e).0).0 in
      let o = (or_both (some_meld x (λ b. ltb 33 (meld_tile b))) (over 33) t).1 in
      some_of (λ i. ltb 63 (get_or x.concealed i 0)) (others x) (λ i l. le-ltb 63 (get_or x.concealed i 0)
      (omega (arith, ltb-false 33 (get_or x.concealed i 0) (some_at (λ j. ltb 33 (get_or x.concealed j 0)) (others x) i o l))))

  pub refused_as_read : IsHeld x → unwritable x ≡ cond (is_unfit x) 2 (refusal_of (unfinished_bytes x))
  unfolding unwritable held_refusal
  refused_as_read i = go (ltb 4 x.m) (unused_not_zero x) (over 63) refl refl refl
    where
      large : (w : Bool) → wrong_held x 0 ≡ w → over 63 ≡ true → held_refusal x 0 ≡ 2
      large true e o = rw e
      large false e o = absurd (false≢true (sym (none_over e) ∙ o))

      go : (a b c : Bool) → ltb 4 x.m ≡ a → unused_not_zero x ≡ b → over 63 ≡ c
          → cond (a || b) 2 (held_refusal x 0) ≡ cond (a || b || c) 2 (refusal_of (unfinished_bytes x))
      go true b c p q o = refl
      go false true c p q o = refl
      go false false true p q o = large (wrong_held x 0) refl o
      go false false false p q o =
          sym (refused_so x i (ltb-false 4 x.m p) q (λ j h.
          let l = ltb-false 63 (get_or x.concealed j 0) (some_at (λ y. ltb 63 (get_or x.concealed y 0)) (others x) j o h) in omega arith))
