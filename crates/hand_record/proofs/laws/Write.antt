-- Packing a hand part by part, and what a writer answers and leaves.
use Prim.Native.Nat.{ℕ, ◌+◌, ◌*◌, ◌-◌, ◌<◌, ◌≤◌}
use Rattle.std.specs.Prelude.{◌≡◌, refl, Bool, true, false, ◌||◌, cond, ltb, take, drop, replicate}
use Rattle.std.proofs.Common.{sym, ◌∙◌, arith, zero-add, length-append, length-take-le}
use Rattle.std.proofs.Math.Path.{ap}
use mathlib.Core.List.{List, [], ◌∷◌, ◌++◌, append-nil}
use borrow.Author.Tests.{ltb-false, lt-ltb, le-ltb}
use Rattle.std.proofs.Math.ListN.{length, length-replicate}
use Rattle.std.proofs.Math.Seq.{sets, sets-eq}
use Rattle.tiles.proofs.laws.Below.{or_both}
use Rattle.bits.specs.Bits.{digits, pack, unpack, width_of, eights, fill}
use Rattle.bits.proofs.laws.Pack.{length_pack, sum_replicate, sets_append, sets_fill, take_replicate, part_fill, length_unpack, pack_append, sum_append}
use Rattle.hand.specs.declared.Held.{Held}
use Rattle.hand.specs.declared.Hand.{Hand}
use Rattle.hand.specs.Held.{unused_not_zero}
use Rattle.hand.specs.Refusals.{too_large, refusal_of, unwritable}
use Rattle.hand_record.specs.Record.{head, head_list, head_for, sixes, length_of, pad_of, held_widths, widths, held_values, values_of, record_of, write_refusal}
use Rattle.hand_record.specs.Record.{written_of, buffer_of}
use Rattle.hand_record.specs.declared.Written.{Written}
use Rattle.hand_record.proofs.laws.Read.{whole}

-- three runs of stores, one after the other
chain : (z a b c : List ℕ) (i j k : ℕ) → i + length a ≡ j → j + length b ≡ k → sets (sets (sets z i a) j b) k c ≡ sets z i (a ++ (b ++ c))
chain z a b c i j k ej ek =
    let s1 : sets z i (a ++ (b ++ c)) ≡ sets (sets z i a) j (b ++ c) = rw ej at (sets_append z i a (b ++ c)) in
    let s2 : sets (sets z i a) j (b ++ c) ≡ sets (sets (sets z i a) j b) k c = rw ek at (sets_append (sets z i a) j b c) in
    sym (s1 ∙ s2)

pub sum_widths : (m : ℕ) → m ≤ 4 → width_of (widths m) ≡ 8 * length_of m
unfolding widths
sum_widths m h =
    let w = whole m h in
    simp sum_append (omega (arith, sum_replicate m 8, sum_replicate (13 - 3 * m) 6))

-- ---- the tiles held, with n zero bits after them

module _ (x : Held) (h : x.m ≤ 4) (hm : 4 ≤ length x.melds) (hc : 13 ≤ length x.concealed) where
  length_melds : length (eights x.m) ≡ length (take x.m x.melds)
  length_melds = length-replicate x.m 8 ∙ sym (length-take-le x.m x.melds (omega arith))

  length_tiles : length (sixes (13 - 3 * x.m)) ≡ length (take (13 - 3 * x.m) x.concealed)
  length_tiles = length-replicate (13 - 3 * x.m) 6 ∙ sym (length-take-le (13 - 3 * x.m) x.concealed (omega arith))

  pub held_lengths : (n : ℕ) → length (held_widths x.m n) ≡ length (held_values x)
  held_lengths n = simp length-append (omega (arith, length_melds, length_tiles))

  parts : (n : ℕ) → pack (held_widths x.m n) (held_values x)
      ≡ pack (eights x.m) (take x.m x.melds) ++ (pack (sixes (13 - 3 * x.m)) (take (13 - 3 * x.m) x.concealed) ++ digits n 0)
  parts n =
      let k : ℕ = 13 - 3 * x.m in
      let p1 = pack_append (eights x.m) (sixes k ++ (n ∷ [])) (take x.m x.melds) (take k x.concealed ++ (0 ∷ [])) length_melds in
      let p2 : pack (sixes k ++ (n ∷ [])) (take k x.concealed ++ (0 ∷ [])) ≡ pack (sixes k) (take k x.concealed) ++ digits n 0 =
      pack_append (sixes k) (n ∷ []) (take k x.concealed) (0 ∷ []) length_tiles
      ∙ ap (λ (l : List ℕ). pack (sixes k) (take k x.concealed) ++ l) (append-nil (digits n 0)) in
      p1 ∙ ap (λ (l : List ℕ). pack (eights x.m) (take x.m x.melds) ++ l) p2

  -- what the calls of a writer store from `at` on
  pub held_packed : (at n : ℕ) (b0 b1 b2 b3 : List ℕ)
      → b1 ≡ sets b0 at (pack (take x.m (eights 4)) (take x.m x.melds))
      → b2 ≡ sets b1 (at + 8 * x.m) (pack (take (13 - 3 * x.m) (sixes 13)) (take (13 - 3 * x.m) x.concealed))
      → b3 ≡ sets b2 (at + 8 * x.m + 6 * (13 - 3 * x.m)) (digits n 0)
      → b3 ≡ sets b0 at (pack (held_widths x.m n) (held_values x))
  held_packed at n b0 b1 b2 b3 e1 e2 e3 =
      let k : ℕ = 13 - 3 * x.m in
      let a : List ℕ = pack (eights x.m) (take x.m x.melds) in
      let b : List ℕ = pack (sixes k) (take k x.concealed) in
      let f1 : b1 ≡ sets b0 at a = rw (take_replicate x.m 4 8 h) at e1 in
      let f2 : b2 ≡ sets b1 (at + 8 * x.m) b = rw (take_replicate k 13 6 (omega arith)) at e2 in
      let la : length a ≡ 8 * x.m = length_pack (eights x.m) (take x.m x.melds) length_melds ∙ sum_replicate x.m 8 in
      let lb : length b ≡ 6 * k = length_pack (sixes k) (take k x.concealed) length_tiles ∙ sum_replicate k 6 in
      e3
      ∙ ap (λ (y : List ℕ). sets y (at + 8 * x.m + 6 * k) (digits n 0)) (f2 ∙ ap (λ (y : List ℕ). sets y (at + 8 * x.m) b) f1)
      ∙ chain b0 a b (digits n 0) at (at + 8 * x.m) (at + 8 * x.m + 6 * k) (omega arith) (omega arith)
      ∙ ap (λ (y : List ℕ). sets b0 at y) (sym (parts n))

-- ---- a hand

split_pack : (x : Hand) → pack (widths x.held.m) (values_of x)
    ≡ pack head (head_list (head_for x)) ++ pack (held_widths x.held.m (pad_of x.held.m)) (held_values x.held)
unfolding widths values_of
split_pack x = pack_append head (held_widths x.held.m (pad_of x.held.m)) (head_list (head_for x)) (held_values x.held) refl

module _ (x : Hand) (h : x.held.m ≤ 4) (hm : 4 ≤ length x.held.melds) (hc : 13 ≤ length x.held.concealed) where
  pub length_widths : length (widths x.held.m) ≡ length (values_of x)
  unfolding widths values_of
  length_widths = omega (arith, held_lengths x.held h hm hc (pad_of x.held.m))

  pub length_packed : length (pack (widths x.held.m) (values_of x)) ≡ 8 * length_of x.held.m
  length_packed = length_pack (widths x.held.m) (values_of x) length_widths ∙ sum_widths x.held.m h

  -- what the calls of a writer leave is the record's bits
  pub packed : (b1 b2 : List ℕ) → b1 ≡ sets (replicate 104 0) 0 (pack head (head_list (head_for x)))
      → b2 ≡ sets b1 25 (pack (held_widths x.held.m (pad_of x.held.m)) (held_values x.held))
      → b2 ≡ fill 104 (pack (widths x.held.m) (values_of x))
  packed b1 b2 e1 e2 =
      let w : List ℕ = held_widths x.held.m (pad_of x.held.m) in
      let z : List ℕ = replicate 104 0 in
      let a : List ℕ = pack head (head_list (head_for x)) in
      let b : List ℕ = pack w (held_values x.held) in
      e2
      ∙ ap (λ (y : List ℕ). sets y 25 b) e1
      ∙ sym (sets_append z 0 a b)
      ∙ ap (λ (y : List ℕ). sets z 0 y) (sym (split_pack x))
      ∙ sets_fill 104 (pack (widths x.held.m) (values_of x)) (omega (arith, length_packed, whole x.held.m h))

-- what is not refused has at most four melds
cond_two : (b : Bool) (n : ℕ) → cond b 2 n ≡ 0 → b ≡ false
cond_two true n e = absurd (omega arith)
cond_two false n e = refl

pub few_melds : (h : Hand) → unwritable h ≡ 0 → h.held.m ≤ 4
unfolding unwritable
few_melds h e =
    let f = h.fields in
    let p = (or_both (too_large h) (unused_not_zero h.held) (cond_two (too_large h || unused_not_zero h.held) (refusal_of h 0) e)).0 in
    ltb-false 4 h.held.m (first (ltb 4 h.held.m) (ltb 1 f.how) (ltb 3 f.winner) (ltb 3 f.discarder) (ltb 3 f.riichi)
    (ltb 7 f.situation) p)
  where
    first : (a b c d u v : Bool) → a || b || c || d || u || v ≡ false → a ≡ false
    first a b c d u v q =
        (or_both a b (or_both (a || b) c (or_both (a || b || c) d (or_both (a || b || c || d) u (or_both (a || b || c || d || u) v q).0).0).0).0).0

-- what a writer answers, and what it leaves
module _ (h : Hand) (buf : List ℕ) where
  pub refusal_hand : (j : ℕ) → j ≡ unwritable h → 0 < j → write_refusal h buf ≡ j
  unfolding write_refusal
  refusal_hand j e g = rw (← e, lt-ltb 0 j g)

  pub refusal_short : unwritable h ≡ 0 → length buf < length_of h.held.m → write_refusal h buf ≡ 13
  unfolding write_refusal
  refusal_short e g = rw (e, lt-ltb (length buf) (length_of h.held.m) g)

  pub refusal_none : unwritable h ≡ 0 → length_of h.held.m ≤ length buf → write_refusal h buf ≡ 0
  unfolding write_refusal
  refusal_none e g = rw (e, le-ltb (length buf) (length_of h.held.m) g)

  pub kept_by : (r : ℕ) → write_refusal h buf ≡ r → 0 < r → (◌≡◌ {A = Written} (record { refusal = r; len = 0 }) (written_of h buf)) × (buf ≡ buffer_of h buf)
  unfolding written_of buffer_of
  kept_by r e g = (rw (e, lt-ltb 0 r g), rw (e, lt-ltb 0 r g))

  pub wrote_by : write_refusal h buf ≡ 0
      → (◌≡◌ {A = Written} (record { refusal = 0; len = length_of h.held.m }) (written_of h buf))
      × (record_of h ++ drop (length_of h.held.m) buf ≡ buffer_of h buf)
  unfolding written_of buffer_of
  wrote_by e = (rw e, rw e)

  pub stored : (b out : List ℕ) → h.held.m ≤ 4 → 4 ≤ length h.held.melds → 13 ≤ length h.held.concealed → length_of h.held.m ≤ length buf
      → b ≡ fill 104 (pack (widths h.held.m) (values_of h))
      → out ≡ sets buf 0 (unpack (take (length_of h.held.m) (eights 13)) b)
      → out ≡ record_of h ++ drop (length_of h.held.m) buf
  unfolding record_of
  stored b out hm4 hm hc room eb eo =
      let m : ℕ = h.held.m in
      let n : ℕ = length_of m in
      let p : List ℕ = pack (widths m) (values_of h) in
      let lp : length p ≡ 8 * n = length_packed h hm4 hm hc in
      let l : List ℕ = unpack (eights n) p in
      let ll : length l ≡ n = length_unpack (eights n) p ∙ length-replicate n 8 in
      let w = whole m hm4 in
      let u : unpack (take n (eights 13)) b ≡ l =
      rw (eb, take_replicate n 13 8 w.2) (part_fill 104 0 (eights n) p (omega (arith, sum_replicate n 8))) in
      (eo ∙ ap (λ (x : List ℕ). sets buf 0 x) u ∙ sets-eq l buf 0 (omega arith) ∙ rw (zero-add, ll))
