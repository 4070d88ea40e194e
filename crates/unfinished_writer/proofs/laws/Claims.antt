-- The proofs of the claims, over plain variables.
use Rattle.std.specs.Prelude.{ℕ, ◌+◌, ◌≤◌, ◌<◌, ◌≡◌, ◌||◌, List, ◌++◌, ◌↔◌, length, take, drop}
use Rattle.std.proofs.Math.Path.{refl}
use Rattle.std.proofs.Common.{sym, ap, ◌∙◌, subst, arith, take_at}
use borrow.Author.Tests.{ltb-false, le-ltb, eq-eqb}
use Rattle.std.proofs.Math.Dec.{ltb}
use Rattle.tiles.proofs.laws.Below.{or_both, some_at, some_of}
use Rattle.tiles.specs.Groups.{at_kind}
use Rattle.bits.specs.Bits.{EachBelow}
use Rattle.hand.specs.declared.Held.{Held}
use Rattle.hand.specs.declared.Hand.{Hand}
use Rattle.hand.specs.Held.{in_held, wrong_held, over_four}
use Rattle.hand.specs.Hand.{in_hand, in_concealed, concealed_tally}
use Rattle.hand.specs.Refusals.{field_over33, field_over, wrong_discarder, wrong_fields, in_record}
use Rattle.hand_record.specs.declared.Written.{Written}
use Rattle.hand_record.specs.Record.{IsHand, hand_of, refusal_in}
use Rattle.hand_record.specs.Record as hand-record
use Rattle.hand_record.proofs.laws.Clean.{Accepted, kinds_of}
use Rattle.hand_record.proofs.laws.Claims.{sound_read, read_sound}
use Rattle.hand_record.proofs.laws.Sound.{read_accepted, read_is_hand}
use Rattle.hand_record.proofs.laws.Bounds.{bounds_of}
use Rattle.reading.specs.declared.Reading.{Reading}
use Rattle.reading.specs.Reading.{IsReading}
use Rattle.score.specs.Named.{IsReadingOf}
use Rattle.unfinished.specs.Unfinished.{Unfinished}
use Rattle.unfinished.specs.Unfinished.{length_of, held_of, refusal_of, read_of}
use Rattle.unfinished.proofs.laws.Sound.{of_clean, held_is}
use Rattle.waits.specs.Waits.{with_one, IsWait}
use Rattle.unfinished_writer.specs.Write.{unfinished_bytes, unwritable, refusal_after, written_by, buffer_by, written_of, buffer_of, IsHeld}
use Rattle.unfinished_writer.specs.Write.{held_in_record, record_refusal, written_from, buffer_from}
use Rattle.unfinished_writer.proofs.laws.Store.{after_none, wrote_by, wrote, before_none, of_accepted}
use Rattle.unfinished_writer.proofs.laws.Round.{same_length, same_bytes, accepted_back, length_bytes, same_read}

-- ---- what was read, written back

module _ (s buf : List ℕ) (b : EachBelow 256 s) (e : refusal_of s ≡ 0) (l : length s ≤ length buf) where
  abbrev x : Held
  x = held_of s

  is_x : (read_of s).held ≡ x
  unfolding read_of
  is_x = rw e

  unrefused : refusal_after (unwritable x) x buf ≡ 0
  unrefused = ap (λ (j : ℕ). refusal_after j x buf) (accepted_back s e) ∙ after_none x buf (omega (arith, same_length s e))

  pub read_write_answer : ◌≡◌ {A = Written} (written_of (read_of s).held buf) (record { refusal = 0; len = length s })
  read_write_answer =
      ap (λ (z : Held). written_of z buf) is_x
      ∙ sym (wrote_by x buf (unwritable x) unrefused).0
      ∙ ap (λ (k : ℕ). record { refusal = 0; len = k }) (same_length s e)

  pub read_write_buffer : buffer_of (read_of s).held buf ≡ s ++ drop (length s) buf
  read_write_buffer =
      ap (λ (z : Held). buffer_of z buf) is_x
      ∙ sym (wrote_by x buf (unwritable x) unrefused).1
      ∙ ap (λ (z : List ℕ). z ++ drop (length_of x.m) buf) (same_bytes s e b)
      ∙ ap (λ (k : ℕ). s ++ drop k buf) (same_length s e)

-- ---- what is written, read: after a refusal j of 0 and of tiles held that are accepted

module _ (x : Held) (j : ℕ) (buf : List ℕ) (i : IsHeld x) (u : unwritable x ≡ 0) (e : (written_by (refusal_after j x buf) x).refusal ≡ 0) where
  abbrev n : ℕ
  n = (written_by (refusal_after j x buf) x).len

  pub taken : take n (buffer_by (refusal_after j x buf) x buf) ≡ unfinished_bytes x
  taken =
      let w = wrote_by x buf j (wrote x buf j e) in
      let en : n ≡ length_of x.m = ap (λ (r : Written). r.len) (sym w.0) in
      ap (λ (k : ℕ). take k (buffer_by (refusal_after j x buf) x buf)) en
      ∙ ap (take (length_of x.m)) (sym w.1)
      ∙ take_at (unfinished_bytes x) (drop (length_of x.m) buf) (length_of x.m) (length_bytes x)

  pub read_again : read_of (take n (buffer_by (refusal_after j x buf) x buf)) ≡ record { refusal = 0; held = x }
  read_again = ap read_of taken ∙ same_read x u i

pub write_read : (x : Held) (buf : List ℕ) → IsHeld x → (written_of x buf).refusal ≡ 0
    → read_of (take (written_of x buf).len (buffer_of x buf)) ≡ record { refusal = 0; held = x }
write_read x buf i e = read_again x (unwritable x) buf i (before_none x buf (unwritable x) (wrote x buf (unwritable x) e)) e

-- ---- a record's tiles held

module _ (h : Hand) (y : Accepted h) where
  -- they are fewer than the tiles of Read's 4
  four_held : (k : ℕ) → k < 34 → in_held h.held k + at_kind h.fields.winning 1 k ≤ 4
  unfolding over_four in_record in_hand
  four_held k g =
      omega (arith, ltb-false 4 (in_record h k) (some_at (λ j. ltb 4 (in_record h j)) 34 k y.clean.four g))

  pub held_accepted : unwritable h.held ≡ 0
  unfolding wrong_fields over_four
  held_accepted =
      let f = h.fields in
      let q = (or_both (wrong_held h.held 0 || field_over33 f || field_over f) (wrong_discarder f) y.clean.fields).0 in
      let w = (or_both (wrong_held h.held 0) (field_over33 f) (or_both (wrong_held h.held 0 || field_over33 f) (field_over f) q).0).0 in
      let four = some_of (λ k. ltb 4 (in_held h.held k)) 34 (λ k g. le-ltb 4 (in_held h.held k) (omega (arith, four_held k g))) in
      of_accepted h.held (record {
        few = (bounds_of h y).few;
        unused = y.unused;
        unrefused = of_clean h.held 0 (record { held = w; order = y.clean.order; four = four });
      })

  -- "when added", the winning tile makes the tiles that readings go by
  same_tally : with_one h.held h.fields.winning ≡ concealed_tally h
  unfolding with_one concealed_tally in_concealed
  same_tally = refl

  one_more : at_kind h.fields.winning 1 h.fields.winning ≡ 1
  unfolding at_kind
  one_more = rw (eq-eqb h.fields.winning h.fields.winning refl)

  pub winning_wait : IsWait h.held h.fields.winning ↔ ((r : Reading) × IsReadingOf h r)
  winning_wait =
      let k : ℕ = h.fields.winning in
      let g : k < 34 = omega (arith, (kinds_of h 0 y.clean.fields).winning) in (
        λ w. (w.reading, subst (λ (t : List ℕ). IsReading t h.held.m k w.reading) same_tally w.reads),
        λ p. record {
          kind = g;
          free = omega (arith, four_held k g, one_more);
          reading = p.0;
          reads = subst (λ (t : List ℕ). IsReading t h.held.m k p.0) (sym same_tally) p.1;
        },
      )

-- ---- what is written from a record

pub held_of_lem : (h : Hand) → IsHand h → IsHeld h.held
held_of_lem h i = record { melds = i.melds; concealed = i.concealed; bytes = i.bytes }

module _ (s : List ℕ) (y : hand-record.IsSound s) where
  pub record_accepted : unwritable (held_in_record s) ≡ 0
  record_accepted = held_accepted (hand_of (hand-record.read_of s)) (read_accepted s y)

  pub record_wait : IsWait (held_in_record s) (hand_of (hand-record.read_of s)).fields.winning ↔ ((r : Reading) × IsReadingOf (hand_of (hand-record.read_of s)) r)
  record_wait = winning_wait (hand_of (hand-record.read_of s)) (read_accepted s y)

  -- the same as from its tiles held
  same_refusal : (buf : List ℕ) → record_refusal s buf ≡ refusal_after (unwritable (held_in_record s)) (held_in_record s) buf
  same_refusal buf = ap (λ (j : ℕ). refusal_after j (held_in_record s) buf) (sound_read s y ∙ sym record_accepted)

  pub same_answer : (buf : List ℕ) → written_from s buf ≡ written_of (held_in_record s) buf
  same_answer buf = ap (λ (j : ℕ). written_by j (held_in_record s)) (same_refusal buf)

  pub same_buffer : (buf : List ℕ) → buffer_from s buf ≡ buffer_of (held_in_record s) buf
  same_buffer buf = ap (λ (j : ℕ). buffer_by j (held_in_record s) buf) (same_refusal buf)

module _ (s buf : List ℕ) (e : (written_from s buf).refusal ≡ 0) where
  pub record_sound : hand-record.IsSound s
  record_sound = read_sound s (before_none (held_in_record s) buf _ (wrote (held_in_record s) buf _ e))

  pub record_read : read_of (take (written_from s buf).len (buffer_from s buf)) ≡ record { refusal = 0; held = held_in_record s }
  record_read =
      read_again (held_in_record s) (refusal_in (hand-record.read_of s).answer) buf
      (held_of_lem (hand_of (hand-record.read_of s)) (read_is_hand s record_sound)) (record_accepted s record_sound) e

  pub record_held : held_of (take (written_from s buf).len (buffer_from s buf)) ≡ held_in_record s
  record_held =
      let t : List ℕ = take (written_from s buf).len (buffer_from s buf) in
      sym (held_is t (read_of t) refl (ap (λ (u : Unfinished). u.refusal) record_read)) ∙ ap (λ (u : Unfinished). u.held) record_read

  pub winning_waits : IsWait (held_of (take (written_from s buf).len (buffer_from s buf))) (hand_of (hand-record.read_of s)).fields.winning
      ↔ ((r : Reading) × IsReadingOf (hand_of (hand-record.read_of s)) r)
  winning_waits =
      subst (λ (x : Held). IsWait x (hand_of (hand-record.read_of s)).fields.winning ↔ ((r : Reading) × IsReadingOf (hand_of (hand-record.read_of s)) r))
      (sym record_held) (record_wait s record_sound)
