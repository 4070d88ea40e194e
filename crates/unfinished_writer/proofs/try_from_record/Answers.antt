-- What Read refuses stores nothing, and else `store` does what is left.
use Rattle.std.proofs.Common.{rules, ◌≡◌, ℕ, List, Err, sym, ap, ◌∙◌}
use Rattle.refusals.specs.declared.Refusal.{Refusal}
use Rattle.refusals.specs.Refusal.{number}
use Rattle.refusals.proofs.Numbers.{number_above}
use Rattle.hand.specs.declared.Held.{Held}
use Rattle.hand.specs.declared.Hand.{Hand}
use Rattle.hand_record.specs.declared.Written.{Written}
use Rattle.hand_record.specs.Record.{HandRead, refusal_in, read_of}
use Rattle.hand_record.proofs.laws.Bounds.{given_read, given_hand, given_bounds}
use Rattle.unfinished_writer.specs.Write.{refusal_after, written_by, buffer_by, held_in_record}
use Rattle.unfinished_writer.proofs.laws.Store.{after_refused, kept_by}
use Rattle.unfinished_writer.proofs.try_from_record.Goals as goal

-- a record that is not read
refused : (s buf : List ℕ) (r : Refusal) → number r ≡ refusal_in (read_of s).answer
    → (◌≡◌ {A = Written} (record { refusal = number r; len = 0 })
    (written_by (refusal_after (refusal_in (read_of s).answer) (held_in_record s) buf) (held_in_record s)))
    × (buf ≡ buffer_by (refusal_after (refusal_in (read_of s).answer) (held_in_record s) buf) (held_in_record s) buf)
refused s buf r e =
    rw (← e) (kept_by (held_in_record s) buf (number r) (number r) (after_refused (held_in_record s) buf (number r) (number_above r)) (number_above r))

pub returns-in_err-h-clause-value : goal.returns-in_err-h-clause-value
returns-in_err-h-clause-value c =
    let l : c.from_residual.result ≡ Err c.in_err-h.field-0.0 = search rules in
    let e = c.in_err-h.ensures.refusal ∙ ap (λ (r : HandRead). refusal_in r.answer) c.read.ensures in
    rw l (refused c.args.s.now c.args.buf.now c.in_err-h.field-0.0 e).0

pub returns-in_err-h-clause-buf_after : goal.returns-in_err-h-clause-buf_after
returns-in_err-h-clause-buf_after c =
    let e = c.in_err-h.ensures.refusal ∙ ap (λ (r : HandRead). refusal_in r.answer) c.read.ensures in
    (refused c.args.s.now c.args.buf.now c.in_err-h.field-0.0 e).1

pub store-requires : goal.store-requires
store-requires c = (given_bounds c.args.s.now c.read.result c.read.ensures c.in_ok-h.ensures.refusal c.in_ok-h.ensures.hand).few

pub returns-clause-value : goal.returns-clause-value
returns-clause-value c =
    let s = c.args.s.now in
    let b = c.args.buf.now in
    let q = ap (λ (h : Hand). h.held) (given_hand s c.read.result c.read.ensures c.in_ok-h.ensures.hand) in
    let y : Held = held_in_record s in
    c.store.ensures.value ∙ ap (λ (x : Held). written_by (refusal_after 0 x b) x) q
    ∙ ap (λ (j : ℕ). written_by (refusal_after j y b) y) (sym (given_read s c.read.result c.read.ensures c.in_ok-h.ensures.refusal))

pub returns-clause-buf_after : goal.returns-clause-buf_after
returns-clause-buf_after c =
    let s = c.args.s.now in
    let b = c.args.buf.now in
    let q = ap (λ (h : Hand). h.held) (given_hand s c.read.result c.read.ensures c.in_ok-h.ensures.hand) in
    let y : Held = held_in_record s in
    c.store.ensures.buf_after ∙ ap (λ (x : Held). buffer_by (refusal_after 0 x b) x b) q
    ∙ ap (λ (j : ℕ). buffer_by (refusal_after j y b) y b) (sym (given_read s c.read.result c.read.ensures c.in_ok-h.ensures.refusal))
