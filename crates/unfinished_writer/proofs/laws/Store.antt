-- Packing an unfinished hand, and what its writers answer and leave.
use Prim.Native.Nat.{ℕ, ◌*◌, ◌<◌, ◌≤◌}
use Rattle.std.specs.Prelude.{◌≡◌, Bool, ◌||◌, take, drop}
use Rattle.std.proofs.Math.Path.{refl, sym, ap}
use Rattle.std.proofs.Common.{◌∙◌, zero-add}
use Rattle.std.proofs.Math.Bool.{true, false, cond}
use mathlib.Core.List.{List, ◌++◌}
use native.Mathlib.Omega.{arith}
use borrow.Author.Tests.{ltb-true, ltb-false, lt-ltb, le-ltb}
use Rattle.std.proofs.Math.Dec.{ltb}
use Rattle.std.proofs.Math.ListN.{length, replicate, length-replicate}
use Rattle.std.proofs.Math.Seq.{sets, sets-eq}
use Rattle.tiles.proofs.laws.Below.{or_both}
use Rattle.bits.specs.Bits.{digits, pack, unpack, width_of, eights, fill}
use Rattle.bits.proofs.laws.Pack.{length_pack, sum_replicate, sets_append, sets_fill, take_replicate, part_fill, length_unpack}
use Rattle.hand.specs.declared.Held.{Held}
use Rattle.hand.specs.Held.{unused_not_zero}
use Rattle.hand_record.specs.Record.{held_widths, held_values}
use Rattle.hand_record.specs.declared.Written.{Written}
use Rattle.hand_record.proofs.laws.Write.{held_lengths}
use Rattle.unfinished.specs.Unfinished.{length_of, pad_of, widths, held_refusal}
use Rattle.unfinished.proofs.laws.Read.{whole}
use Rattle.unfinished.proofs.laws.Claims.{filled}
use Rattle.unfinished_writer.specs.Write.{values_of, unfinished_bytes, unwritable, refusal_after, written_by, buffer_by}

pub sum_widths : (m : ℕ) → m ≤ 4 → width_of (widths m) ≡ 8 * length_of m
sum_widths m h = let f = filled m h in f.0 ∙ f.1

pub bytes_11 : (m : ℕ) → m ≤ 4 → length_of m ≤ 11
bytes_11 m h = omega (arith, (whole m h).1, (whole m h).2)

module _ (x : Held) (h : x.m ≤ 4) (hm : 4 ≤ length x.melds) (hc : 13 ≤ length x.concealed) where
  pub length_widths : length (widths x.m) ≡ length (values_of x)
  unfolding widths values_of
  length_widths = omega (arith, held_lengths x h hm hc (pad_of x.m))

  pub length_packed : length (pack (widths x.m) (values_of x)) ≡ 8 * length_of x.m
  length_packed = length_pack (widths x.m) (values_of x) length_widths ∙ sum_widths x.m h

  -- what the calls of a writer leave is the hand's bits
  pub packed : (b1 b2 : List ℕ) → b1 ≡ sets (replicate 88 0) 0 (digits 3 x.m)
      → b2 ≡ sets b1 3 (pack (held_widths x.m (pad_of x.m)) (held_values x))
      → b2 ≡ fill 88 (pack (widths x.m) (values_of x))
  unfolding widths values_of
  packed b1 b2 e1 e2 =
      let z : List ℕ = replicate 88 0 in
      let b : List ℕ = pack (held_widths x.m (pad_of x.m)) (held_values x) in
      e2
      ∙ ap (λ (y : List ℕ). sets y 3 b) e1
      ∙ sym (sets_append z 0 (digits 3 x.m) b)
      ∙ sets_fill 88 (digits 3 x.m ++ b) (omega (arith, length_packed, whole x.m h))

  -- and what is stored of them in a buffer
  pub stored : (buf b out : List ℕ) → length_of x.m ≤ length buf → b ≡ fill 88 (pack (widths x.m) (values_of x))
      → out ≡ sets buf 0 (unpack (take (length_of x.m) (eights 11)) b)
      → out ≡ unfinished_bytes x ++ drop (length_of x.m) buf
  unfolding unfinished_bytes
  stored buf b out room eb eo =
      let m : ℕ = x.m in
      let n : ℕ = length_of m in
      let p : List ℕ = pack (widths m) (values_of x) in
      let lp : length p ≡ 8 * n = length_packed in
      let l : List ℕ = unpack (eights n) p in
      let ll : length l ≡ n = length_unpack (eights n) p ∙ length-replicate n 8 in
      let u : unpack (take n (eights 11)) b ≡ l =
      rw (eb, take_replicate n 11 8 (bytes_11 m h)) (part_fill 88 0 (eights n) p (omega (arith, sum_replicate n 8))) in
      (eo ∙ ap (λ (y : List ℕ). sets buf 0 y) u ∙ sets-eq l buf 0 (omega arith) ∙ rw (zero-add, ll))

-- ---- what a writer answers, and what it leaves

module _ (x : Held) (buf : List ℕ) where
  pub after_refused : (j : ℕ) → 0 < j → refusal_after j x buf ≡ j
  unfolding refusal_after
  after_refused j g = rw (lt-ltb 0 j g)

  pub after_short : length buf < length_of x.m → refusal_after 0 x buf ≡ 13
  unfolding refusal_after
  after_short g = rw (lt-ltb (length buf) (length_of x.m) g)

  pub after_none : length_of x.m ≤ length buf → refusal_after 0 x buf ≡ 0
  unfolding refusal_after
  after_none g = rw (le-ltb (length buf) (length_of x.m) g)

  pub kept_by : (j r : ℕ) → refusal_after j x buf ≡ r → 0 < r
      → (◌≡◌ {A = Written} (record { refusal = r; len = 0 }) (written_by (refusal_after j x buf) x)) × (buf ≡ buffer_by (refusal_after j x buf) x buf)
  unfolding written_by buffer_by
  kept_by j r e g = (rw (e, lt-ltb 0 r g), rw (e, lt-ltb 0 r g))

  pub wrote_by : (j : ℕ) → refusal_after j x buf ≡ 0
      → (◌≡◌ {A = Written} (record { refusal = 0; len = length_of x.m }) (written_by (refusal_after j x buf) x))
      × (unfinished_bytes x ++ drop (length_of x.m) buf ≡ buffer_by (refusal_after j x buf) x buf)
  unfolding written_by buffer_by
  wrote_by j e = (rw e, rw e)

  -- what a call that is not refused says
  pub wrote : (j : ℕ) → (written_by (refusal_after j x buf) x).refusal ≡ 0 → refusal_after j x buf ≡ 0
  unfolding written_by
  wrote j e = go (refusal_after j x buf) (ltb 0 (refusal_after j x buf)) refl e
    where
      go : (n : ℕ) (b : Bool) → ltb 0 n ≡ b → (cond {A = Written} b (record { refusal = n; len = 0 })
          (record { refusal = 0; len = length_of x.m })).refusal ≡ 0 → n ≡ 0
      go n true q e = e
      go n false q e = omega (arith, ltb-false 0 n q)

  pub before_none : (j : ℕ) → refusal_after j x buf ≡ 0 → j ≡ 0
  unfolding refusal_after
  before_none j e = go j (ltb 0 j) refl _ e
    where
      go : (n : ℕ) (b : Bool) → ltb 0 n ≡ b → (k : ℕ) → cond b n k ≡ 0 → n ≡ 0
      go n true q k e = e
      go n false q k e = omega (arith, ltb-false 0 n q)

  -- a length that is told is the buffer's at most
  fits : (j : ℕ) → refusal_after j x buf ≡ 0 → length_of x.m ≤ length buf
  unfolding refusal_after
  fits j e = go (ltb 0 j) refl (ltb (length buf) (length_of x.m)) refl e
    where
      go : (a : Bool) → ltb 0 j ≡ a → (b : Bool) → ltb (length buf) (length_of x.m) ≡ b → cond a j (cond b 13 0) ≡ 0 → length_of x.m ≤ length buf
      go true p b q f = absurd (omega (arith, ltb-true 0 j p))
      go false p true q f = absurd (omega arith)
      go false p false q f = ltb-false (length buf) (length_of x.m) q

  pub within : (j : ℕ) → (written_by (refusal_after j x buf) x).len ≤ length buf
  unfolding written_by
  within j = go (ltb 0 (refusal_after j x buf)) refl
    where
      go : (a : Bool) → ltb 0 (refusal_after j x buf) ≡ a
          → (cond {A = Written} a (record { refusal = refusal_after j x buf; len = 0 }) (record { refusal = 0; len = length_of x.m })).len ≤ length buf
      go true e = omega arith
      go false e = fits j (omega (arith, ltb-false 0 (refusal_after j x buf) e))

-- ---- tiles held that are accepted

pub record Accepted (x : Held) : Type 0 where
  pub few : x.m ≤ 4
  pub unused : unused_not_zero x ≡ false
  pub unrefused : held_refusal x 0 ≡ 0

cond_two : (b : Bool) (n : ℕ) → cond b 2 n ≡ 0 → (b ≡ false) × (n ≡ 0)
cond_two true n e = absurd (omega arith)
cond_two false n e = (refl, e)

pub accepted_of : (x : Held) → unwritable x ≡ 0 → Accepted x
unfolding unwritable
accepted_of x e =
    let p = cond_two (ltb 4 x.m || unused_not_zero x) (held_refusal x 0) e in
    let q = or_both (ltb 4 x.m) (unused_not_zero x) p.0 in
    record { few = ltb-false 4 x.m q.0; unused = q.1; unrefused = p.1 }

pub of_accepted : (x : Held) → Accepted x → unwritable x ≡ 0
unfolding unwritable
of_accepted x a = rw (le-ltb 4 x.m a.few, a.unused) a.unrefused
