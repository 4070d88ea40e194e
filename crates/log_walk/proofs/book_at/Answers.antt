-- The part is not empty, and it is an entry's.
use Rattle.std.proofs.Common.{◌≡◌, ◌<◌, Err, length, sym, ap, ◌∙◌, rules, arith}
use Rattle.log_entry.specs.Log.{part_at}
use Rattle.log_entry.proofs.laws.Next.{part_is_entry}
use Rattle.log_walk.specs.Walk.{no_entry}
use Rattle.log_walk.proofs.laws.Turn.{step_none, step_entry}
use Rattle.log_walk.proofs.book_at.Goals as goal

pub returns-in_err-part-clause-value : goal.returns-in_err-part-clause-value
returns-in_err-part-clause-value c =
    let a = c.args in
    let e = c.in_err-part.ensures in
    let same : c.from_residual.result ≡ Err c.in_err-part.field-0.0 = search rules in
    rw same (ap (λ n. no_entry n a.g) e.refusal ∙ sym (step_none a.g a.s.now a.at (ap length (sym e.part))))

pub returns-in_default-clause-value : goal.returns-in_default-clause-value
returns-in_default-clause-value c =
    let a = c.args in
    let part = rw c.in_default.is at c.in_ok-part.ensures.part in
    ap (λ n. no_entry n a.g) c.in_ok-part.ensures.refusal ∙ sym (step_none a.g a.s.now a.at (ap length (sym part)))

pub book_part-requires : goal.book_part-requires
book_part-requires c =
    let a = c.args in
    let part : c.in-Some.part.now ≡ part_at a.s.now a.at = rw c.in-Some.is at c.in_ok-part.ensures.part in
    let some : 0 < length c.in-Some.part.now = rw c.in-Some.is at c.in_ok-part.ensures.some in
    rw part (part_is_entry a.s.now a.at (rw (← part) some))

pub returns-clause-value : goal.returns-clause-value
returns-clause-value c =
    let a = c.args in
    let part : c.in-Some.part.now ≡ part_at a.s.now a.at = rw c.in-Some.is at c.in_ok-part.ensures.part in
    let some : 0 < length c.in-Some.part.now = rw c.in-Some.is at c.in_ok-part.ensures.some in
    step_entry a.g a.s.now a.at _ part (λ z. omega (arith, z, some)) _ (rw (← c.kind.ensures) c.letter.ensures.by_index) _ _ c.book_part.ensures
