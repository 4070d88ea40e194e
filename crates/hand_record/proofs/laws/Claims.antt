-- The proofs of the claims, over plain variables.
use Rattle.std.specs.Prelude.{ℕ, zero, suc, ◌+◌, ◌*◌, ◌-◌, ◌≤◌, ◌<◌, ◌≡◌, Bool, true, false, cond, List, ◌++◌, ltb, length, take, drop}
use Rattle.std.proofs.Math.Path.{refl}
use Rattle.std.proofs.Common.{sym, ap, ◌∙◌, arith, ltb-true, ltb-false, take_at}
use Rattle.bits.specs.Bits.{width_of, EachBelow, bits_of}
use Rattle.hand.specs.declared.Hand.{Hand}
use Rattle.hand.specs.Refusals.{refusal_of, unwritable}
use Rattle.hand_record.specs.Record.{HandRead}
use Rattle.hand_record.specs.declared.Written.{Written}
use Rattle.hand_record.specs.Record.{length_of, pad_of, widths, wrong_length, count_in, hand_in, hand_of_record, padding_of_record, IsSound, refused_with}
use Rattle.hand_record.specs.Record.{sound_as, refusal_in, hand_of, answer_by, answer_in, read_of, record_of, write_refusal, written_of, buffer_of}
use Rattle.hand_record.proofs.laws.Read.{whole, length_of_lem}
use Rattle.hand_record.proofs.laws.Write.{sum_widths, refusal_none, wrote_by}
use Rattle.hand_record.proofs.laws.Clean.{clean_of, of_clean}
use Rattle.hand_record.proofs.laws.Round.{ReadAs, as_read, same_bytes, accepted_back, length_record, same_hand, length_is}

module _ (s : List ℕ) where
  abbrev x : Hand
  x = hand_of_record s

  abbrev p : ℕ
  p = padding_of_record s

  pub sound_read : IsSound s → refusal_in (read_of s).answer ≡ 0
  sound_read y =
      ap (λ (r : HandRead). refusal_in r.answer)
      (as_read s x (record {
        right_length = length_of_lem (length s) (count_in s) y.len;
        is_hand = refl;
        unrefused = of_clean x p (record { fields = y.fields; order = y.order; four = y.four; situation = y.situation });
      }))

  -- a number of 0 is that of a hand that is given
  given : (f g : Bool) (j : ℕ) → ltb 0 j ≡ g → refusal_in (cond f (refused_with 1) (cond g (refused_with j) (sound_as x))).answer ≡ 0 → (f ≡ false) × (j ≡ 0)
  given true g j q e = absurd (omega arith)
  given false true j q e = absurd (omega (arith, ltb-true 0 j q))
  given false false j q e = (refl, omega (arith, ltb-false 0 j q))

  is_given : refusal_in (read_of s).answer ≡ 0 → (wrong_length (length s) (count_in s) ≡ false) × (refusal_of x p ≡ 0)
  unfolding read_of answer_in answer_by
  is_given e = given (wrong_length (length s) (count_in s)) (ltb 0 (refusal_of x p)) (refusal_of x p) refl e

  pub read_sound : refusal_in (read_of s).answer ≡ 0 → IsSound s
  read_sound e =
      let g = is_given e in
      let c = clean_of x p g.1 in
      record { len = g.0; fields = c.fields; order = c.order; four = c.four; situation = c.situation }

  pub is_read : refusal_in (read_of s).answer ≡ 0 → ReadAs s x
  is_read e =
      let g = is_given e in
      record { right_length = length_of_lem (length s) (count_in s) g.0; is_hand = refl; unrefused = g.1 }

-- the widths fill the bytes
pub filled : (m : ℕ) → m ≤ 4 → (width_of (widths m) ≡ 103 - 10 * m + pad_of m) × (103 - 10 * m + pad_of m ≡ 8 * length_of m) × (pad_of m < 8)
filled m h = (omega (arith, sum_widths m h, whole m h), omega (arith, whole m h), pad_few m h)
  where
    pad_few : (m : ℕ) → m ≤ 4 → pad_of m < 8
    pad_few zero h = omega arith
    pad_few (suc zero) h = omega arith
    pad_few (suc (suc zero)) h = omega arith
    pad_few (suc (suc (suc zero))) h = omega arith
    pad_few (suc (suc (suc (suc zero)))) h = omega arith
    pad_few (suc (suc (suc (suc (suc m))))) h = absurd (omega arith)

-- what was read, written back
module _ (s buf : List ℕ) (b : EachBelow 256 s) (e : refusal_in (read_of s).answer ≡ 0) (l : length s ≤ length buf) where
  abbrev h : Hand
  h = hand_in (count_in s) (bits_of s)

  same_length : length_of h.held.m ≡ length s
  same_length = sym (length_is s h (is_read s e)).right

  same_read : hand_of (read_of s) ≡ h
  same_read = ap hand_of (as_read s h (is_read s e))

  unrefused : write_refusal h buf ≡ 0
  unrefused = refusal_none h buf (accepted_back s h (is_read s e)) (omega (arith, same_length))

  pub read_write_answer : ◌≡◌ {A = Written} (written_of (hand_of (read_of s)) buf) (record { refusal = 0; len = length s })
  read_write_answer =
      ap (λ (z : Hand). written_of z buf) same_read ∙ sym (wrote_by h buf unrefused).0 ∙ ap (λ (k : ℕ). record { refusal = 0; len = k }) same_length

  pub read_write_buffer : buffer_of (hand_of (read_of s)) buf ≡ s ++ drop (length s) buf
  read_write_buffer =
      ap (λ (z : Hand). buffer_of z buf) same_read
      ∙ sym (wrote_by h buf unrefused).1
      ∙ ap (λ (z : List ℕ). z ++ drop (length_of h.held.m) buf) (same_bytes s h (is_read s e) b)
      ∙ ap (λ (k : ℕ). s ++ drop k buf) same_length

-- what a write that is not refused says
wrote : (h : Hand) (buf : List ℕ) → (written_of h buf).refusal ≡ 0 → (write_refusal h buf ≡ 0)
unfolding written_of
wrote h buf e = go (write_refusal h buf) (ltb 0 (write_refusal h buf)) refl e
  where
    go : (n : ℕ) (b : Bool) → ltb 0 n ≡ b → (cond {A = Written} b (record { refusal = n; len = 0 })
        (record { refusal = 0; len = length_of h.held.m })).refusal ≡ 0 → n ≡ 0
    go n true q e = e
    go n false q e = omega (arith, ltb-false 0 n q)

writable : (h : Hand) (buf : List ℕ) → write_refusal h buf ≡ 0 → unwritable h ≡ 0
unfolding write_refusal
writable h buf e = go (unwritable h) (ltb 0 (unwritable h)) refl _ e
  where
    go : (n : ℕ) (b : Bool) → ltb 0 n ≡ b → (k : ℕ) → cond b n k ≡ 0 → n ≡ 0
    go n true q k e = e
    go n false q k e = omega (arith, ltb-false 0 n q)

pub write_read : (h : Hand) (buf : List ℕ) → length h.held.melds ≡ 4 → length h.held.concealed ≡ 13 → EachBelow 256 h.held.melds
    → (written_of h buf).refusal ≡ 0
    → read_of (take (written_of h buf).len (buffer_of h buf)) ≡ sound_as h
write_read h buf lm lc bm e =
    let z = wrote h buf e in
    let w = wrote_by h buf z in
    let u = writable h buf z in
    let n : (written_of h buf).len ≡ length_of h.held.m = ap (λ (r : Written). r.len) (sym w.0) in
    let t : take (written_of h buf).len (buffer_of h buf) ≡ record_of h =
    ap (λ (k : ℕ). take k (buffer_of h buf)) n
    ∙ ap (take (length_of h.held.m)) (sym w.1)
    ∙ take_at (record_of h) (drop (length_of h.held.m) buf) (length_of h.held.m) (length_record h u lm lc bm) in
    ap read_of t ∙ same_hand h u lm lc bm
