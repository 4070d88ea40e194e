-- An entry lies inside the log.
use Rattle.std.proofs.Common.{◌≡◌, ◌-◌, List, ℕ, sym, ap, ◌∙◌, length, take, drop, length-drop, arith}
use Rattle.log_entry.specs.search.Lengths.{entry_length}
use Rattle.log_entry.proofs.laws.Parts.{from_on, length_inside}
use Rattle.log_entry.proofs.laws.Next.{part_at_end, part_is, part_none, refusal_end, refusal_bad, refusal_entry}
use Rattle.log_entry.proofs.next_entry.Goals as goal

-- n is told of the bytes from an offset on
told : (log : List ℕ) (at n : ℕ) → n ≡ entry_length (take (length log - at) (drop at log)) → n ≡ entry_length (drop at log)
told log at n e = e ∙ ap entry_length (from_on at log)

pub returns-then-log-at-clause-part : goal.returns-then-log-at-clause-part
returns-then-log-at-clause-part c = sym (part_at_end c.args.log.now c.args.at c.if-log-at.true)

pub returns-then-log-at-clause-refusal : goal.returns-then-log-at-clause-refusal
returns-then-log-at-clause-refusal c = sym (refusal_end c.args.log.now c.args.at c.if-log-at.true)

pub returns-in_default-clause-part : goal.returns-in_default-clause-part
returns-in_default-clause-part c =
    sym (part_none c.args.log.now c.args.at (sym (told c.args.log.now c.args.at 0 c.in_default.ensures.value)))

pub returns-in_default-clause-refusal : goal.returns-in_default-clause-refusal
returns-in_default-clause-refusal c =
    sym (refusal_bad c.args.log.now c.args.at c.if-log-at.false (sym (told c.args.log.now c.args.at 0 c.in_default.ensures.value)))

pub overflow_add-end : goal.overflow_add-end
overflow_add-end c =
    let n = told c.args.log.now c.args.at _ c.in-Some.ensures.value in
    omega (arith, n, length_inside (drop c.args.at c.args.log.now), length-drop c.args.at c.args.log.now)

pub slice_bounds-result-end : goal.slice_bounds-result-end
slice_bounds-result-end c =
    let n = told c.args.log.now c.args.at _ c.in-Some.ensures.value in
    omega (arith, n, length_inside (drop c.args.at c.args.log.now), length-drop c.args.at c.args.log.now)

pub returns-clause-part : goal.returns-clause-part
returns-clause-part c = part_is c.args.log.now c.args.at _ (told c.args.log.now c.args.at _ c.in-Some.ensures.value)

pub returns-clause-refusal : goal.returns-clause-refusal
returns-clause-refusal c =
    let n = told c.args.log.now c.args.at _ c.in-Some.ensures.value in
    sym (refusal_entry c.args.log.now c.args.at (λ z. omega (arith, z, n, c.in-Some.ensures.some)))
