-- Each line that is written keeps what holds before it; where the loop stops, that gives the answer.
use Rattle.std.proofs.Common.{◌≡◌, ◌<◌, Ok, None, refl, rules, arith}
use Rattle.log_walk.proofs.laws.Fill.{kept_start, end_gives, max_gives, line_inside, lent_short, lent_kept}
use Rattle.log_text.proofs.lines.Goals as goal

pub loop-step-init : goal.loop-step-init
loop-step-init c = kept_start _ _ _

pub overflow_add-walk-in-Ok-Some : goal.overflow_add-walk-in-Ok-Some
overflow_add-walk-in-Ok-Some c =
    let b = rw c.in-Ok-Some.field-0-is at c.in-Ok-Some.ensures.value in
    let some : 0 < c.in-Ok-Some.step.len = rw c.in-Ok-Some.field-0-is at c.in-Ok-Some.ensures.some in
    omega (arith, line_inside _ _ _ _ _ _ c.loop-step.invariant _ b (λ z. omega (arith, z, some)))

pub loop-step-smaller : goal.loop-step-smaller
loop-step-smaller c =
    let b = rw c.in-Ok-Some.field-0-is at c.in-Ok-Some.ensures.value in
    let some : 0 < c.in-Ok-Some.step.len = rw c.in-Ok-Some.field-0-is at c.in-Ok-Some.ensures.some in
    omega (arith, line_inside _ _ _ _ _ _ c.loop-step.invariant _ b (λ z. omega (arith, z, some)))

pub loop-step-preserved : goal.loop-step-preserved
loop-step-preserved c =
    let e = c.entry_line-n.ensures in
    let b = rw c.in-Ok-Some.field-0-is at c.in-Ok-Some.ensures.value in
    let some : 0 < c.in-Ok-Some.step.len = rw c.in-Ok-Some.field-0-is at c.in-Ok-Some.ensures.some in
    rw c.unwrap_or-game.ensures (lent_kept _ _ _ _ _ _ c.loop-step.invariant _ b (λ z. omega (arith, z, some)) _ _
    (rw (c.unwrap_or-game.ensures, c.number-refusal.ensures.value) at e.value) (rw (c.unwrap_or-game.ensures, c.number-refusal.ensures.value) at e.buf_after)
    c.if-n-eq0.false c.if-walk.false)

pub returns-then-walk-clause-value : goal.returns-then-walk-clause-value
returns-then-walk-clause-value c = (max_gives _ _ _ _ _ _ c.loop-step.invariant c.if-walk.true).0

pub returns-then-n-eq0-clause-value : goal.returns-then-n-eq0-clause-value
returns-then-n-eq0-clause-value c =
    let e = c.entry_line-n.ensures in
    let b = rw c.in-Ok-Some.field-0-is at c.in-Ok-Some.ensures.value in
    let some : 0 < c.in-Ok-Some.step.len = rw c.in-Ok-Some.field-0-is at c.in-Ok-Some.ensures.some in
    (lent_short _ _ _ _ _ _ c.loop-step.invariant _ b (λ z. omega (arith, z, some)) _ _
    (rw (c.unwrap_or-game.ensures, c.number-refusal.ensures.value) at e.value) (rw (c.unwrap_or-game.ensures, c.number-refusal.ensures.value) at e.buf_after)
    c.if-n-eq0.true (rw (c.unwrap_or-game.ensures, c.number-refusal.ensures.value) at e.line_bound)).0

pub returns-then-n-eq0-clause-s_value : goal.returns-then-n-eq0-clause-s_value
returns-then-n-eq0-clause-s_value c =
    let e = c.entry_line-n.ensures in
    let b = rw c.in-Ok-Some.field-0-is at c.in-Ok-Some.ensures.value in
    let some : 0 < c.in-Ok-Some.step.len = rw c.in-Ok-Some.field-0-is at c.in-Ok-Some.ensures.some in
    (lent_short _ _ _ _ _ _ c.loop-step.invariant _ b (λ z. omega (arith, z, some)) _ _
    (rw (c.unwrap_or-game.ensures, c.number-refusal.ensures.value) at e.value) (rw (c.unwrap_or-game.ensures, c.number-refusal.ensures.value) at e.buf_after)
    c.if-n-eq0.true (rw (c.unwrap_or-game.ensures, c.number-refusal.ensures.value) at e.line_bound)).1.1

-- no entry is left: the log's end
pub returns-in_default-clause-value : goal.returns-in_default-clause-value
returns-in_default-clause-value c =
    let none : c.book_at.result ≡ Ok None = search rules in
    (end_gives _ _ _ _ _ _ c.loop-step.invariant _ (rw none at c.book_at.ensures.value) refl).0

pub returns-in_default-clause-s_value : goal.returns-in_default-clause-s_value
returns-in_default-clause-s_value c =
    let none : c.book_at.result ≡ Ok None = search rules in
    (end_gives _ _ _ _ _ _ c.loop-step.invariant _ (rw none at c.book_at.ensures.value) refl).1.1

-- 14
pub returns-in_default-2-clause-value : goal.returns-in_default-2-clause-value
returns-in_default-2-clause-value c = (end_gives _ _ _ _ _ _ c.loop-step.invariant _ (rw c.in_default.is at c.book_at.ensures.value) refl).0

pub returns-in_default-2-clause-s_value : goal.returns-in_default-2-clause-s_value
returns-in_default-2-clause-s_value c = (end_gives _ _ _ _ _ _ c.loop-step.invariant _ (rw c.in_default.is at c.book_at.ensures.value) refl).1.1
