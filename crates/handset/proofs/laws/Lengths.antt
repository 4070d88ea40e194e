-- Lengths and offsets given out, against those given.
use Rattle.std.specs.Prelude.{◌≡◌, refl, Bool, true, false, cond, List, ℕ, ◌≤◌, ltb, leb, length, drop}
use Rattle.std.proofs.Common.{ap, ◌∙◌, arith, ltb-true, ltb-false, leb-true, leb-false}
use Rattle.hand.specs.declared.Hand.{Hand}
use Rattle.hand.specs.Refusals.{unwritable}
use Rattle.hand_record.specs.declared.Written.{Written}
use Rattle.hand_record.specs.Record.{length_of, write_refusal, written_of}
use Rattle.claim_writer.specs.declared.Claim.{Claim}
use Rattle.claim_writer.specs.Writes.{Writes, unnamed, short, written}
use Rattle.claim_writer.specs.Write as claims
use Rattle.claim_writer.proofs.ExactlyOne.{is_written}
use Rattle.text.specs.Text.{length_in}
use Rattle.log_entry.specs.Next.{Next, end, entry, bad}
use Rattle.log_entry.specs.Log.{next_of, part_in, part_at}
use Rattle.log_entry.proofs.laws.Parts.{none_empty}
use Rattle.log_entry.proofs.laws.Next.{part_inside, none_left}
use Rattle.log_entry.proofs.laws.Walk.{parts_none}
use Rattle.log_walk.specs.declared.Walk.{Walk}
use Rattle.log_walk.specs.declared.Printed.{Printed}
use Rattle.log_walk.specs.Walk.{filled, lines_of}
use Rattle.log_walk.proofs.laws.Fill.{filled_none}
use Rattle.log_walk.proofs.laws.Through.{moved}
use Rattle.handset.specs.Interface.{next_entry_by, next_entry_of}

-- a record that is not refused fits
fits : (h : Hand) (buf : List ℕ) → ltb 0 (write_refusal h buf) ≡ false → length_of h.held.m ≤ length buf
unfolding write_refusal
fits h buf e = go (ltb 0 (unwritable h)) refl (ltb (length buf) (length_of h.held.m)) refl e
  where
    go : (a : Bool) → ltb 0 (unwritable h) ≡ a → (b : Bool) → ltb (length buf) (length_of h.held.m) ≡ b → ltb 0 (cond a (unwritable h) (cond b 13 0)) ≡ false
        → length_of h.held.m ≤ length buf
    go true p b q f = absurd (omega (arith, ltb-true 0 (unwritable h) p, ltb-false 0 (unwritable h) f))
    go false p true q f = absurd (omega (arith, ltb-false 0 13 f))
    go false p false q f = ltb-false (length buf) (length_of h.held.m) q

pub written_within : (h : Hand) (buf : List ℕ) → (written_of h buf).len ≤ length buf
unfolding written_of
written_within h buf = go (ltb 0 (write_refusal h buf)) refl
  where
    go : (a : Bool) → ltb 0 (write_refusal h buf) ≡ a
        → (cond {A = Written} a (record { refusal = write_refusal h buf; len = 0 }) (record { refusal = 0; len = length_of h.held.m })).len ≤ length buf
    go true e = omega arith
    go false e = fits h buf e

claim_fits : (c : Claim) (buf : List ℕ) {w : Written} {out : List ℕ} → Writes c buf w out → w.len ≤ length buf
claim_fits c buf (unnamed n) = omega arith
claim_fits c buf (short s i h) = omega arith
claim_fits c buf (written s i h) = h

pub claim_within : (c : Claim) (buf : List ℕ) → (claims.written_of c buf).len ≤ length buf
claim_within c buf = claim_fits c buf (is_written c buf)

entry_length_lem : (n : Next) → (next_entry_by n).length ≡ length (part_in n)
entry_length_lem end = refl
entry_length_lem (entry x) = refl
entry_length_lem bad = refl

pub entry_within : (log : List ℕ) (at : ℕ) → (next_entry_of log at).length ≤ length log
unfolding next_entry_of part_at
entry_within log at = let p : length (part_at log at) ≤ length log = omega (arith, part_inside log at) in omega (arith, entry_length_lem (next_of log at), p)

pub line_within : (buf line : List ℕ) → length_in buf line ≤ length buf
line_within buf line = go (leb (length line) (length buf)) refl
  where
    go : (a : Bool) → leb (length line) (length buf) ≡ a → cond a (length line) 0 ≤ length buf
    go true e = leb-true (length line) (length buf) e
    go false e = omega arith

-- past the end of the log a walk stays
stays : (room : ℕ) (w : Walk) (log : List ℕ) → length log ≤ w.at → lines_of room w log ≡ record { written = 0; walk = w }
unfolding lines_of
stays room w log h =
    ap (filled room 0 w) (parts_none (drop w.at log) (none_empty (drop w.at log) (none_left log w.at h))) ∙ filled_none room 0 w

pub lines_within : (room : ℕ) (w : Walk) (log : List ℕ) (most : ℕ) → w.at ≤ most → length log ≤ most
    → let r = lines_of room w log in
    (r.written ≤ room) × (r.walk.at ≤ most)
lines_within room w log most h g = ((moved room w log).fits (omega arith), go (leb w.at (length log)) refl)
  where
    go : (a : Bool) → leb w.at (length log) ≡ a → (lines_of room w log).walk.at ≤ most
    go true e = omega (arith, (moved room w log).inside (leb-true w.at (length log) e))
    go false e =
        let p = leb-false w.at (length log) e in
        omega (arith, ap (λ (r : Printed). r.walk.at) (stays room w log (omega arith)))
