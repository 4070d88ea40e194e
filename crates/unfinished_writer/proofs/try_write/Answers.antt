-- What is refused stores nothing, and else `store` does what is left.
use Rattle.std.proofs.Common.{rules, ◌≡◌, ℕ, List, Err, sym, ap, ◌∙◌}
use Rattle.refusals.specs.declared.Refusal.{Refusal}
use Rattle.refusals.specs.Refusal.{number}
use Rattle.refusals.proofs.Numbers.{number_above}
use Rattle.hand.specs.declared.Held.{Held}
use Rattle.hand_record.specs.declared.Written.{Written}
use Rattle.unfinished_writer.specs.Write.{unwritable, refusal_after, written_by, buffer_by}
use Rattle.unfinished_writer.proofs.laws.Store.{after_refused, kept_by, accepted_of}
use Rattle.unfinished_writer.proofs.try_write.Goals as goal

-- refused tiles held
refused : (x : Held) (buf : List ℕ) (r : Refusal) → number r ≡ unwritable x
    → (◌≡◌ {A = Written} (record { refusal = number r; len = 0 }) (written_by (refusal_after (unwritable x) x buf) x))
    × (buf ≡ buffer_by (refusal_after (unwritable x) x buf) x buf)
refused x buf r e =
    rw (← e) (kept_by x buf (number r) (number r) (after_refused x buf (number r) (number_above r)) (number_above r))

pub returns-in_err-check_writable-clause-value : goal.returns-in_err-check_writable-clause-value
returns-in_err-check_writable-clause-value c =
    let l : c.from_residual.result ≡ Err c.in_err-check_writable.field-0.0 = search rules in
    rw l (refused c.args.x c.args.buf.now c.in_err-check_writable.field-0.0 c.in_err-check_writable.ensures).0

pub returns-in_err-check_writable-clause-buf_after : goal.returns-in_err-check_writable-clause-buf_after
returns-in_err-check_writable-clause-buf_after c =
    (refused c.args.x c.args.buf.now c.in_err-check_writable.field-0.0 c.in_err-check_writable.ensures).1

pub store-requires : goal.store-requires
store-requires c = (accepted_of _ (sym c.in_ok-check_writable.ensures)).few

pub returns-clause-value : goal.returns-clause-value
returns-clause-value c =
    let x = c.args.x in
    let b = c.args.buf.now in
    c.store.ensures.value ∙ ap (λ (j : ℕ). written_by (refusal_after j x b) x) c.in_ok-check_writable.ensures

pub returns-clause-buf_after : goal.returns-clause-buf_after
returns-clause-buf_after c =
    let x = c.args.x in
    let b = c.args.buf.now in
    c.store.ensures.buf_after ∙ ap (λ (j : ℕ). buffer_by (refusal_after j x b) x b) c.in_ok-check_writable.ensures
