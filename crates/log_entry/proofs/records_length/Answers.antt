-- What is left to add, after what was added, gives the whole.
use Rattle.std.proofs.Common.{◌≡◌, ◌-◌, ◌+◌, sym, ap, ◌∙◌, drop, length-drop, arith}
use Rattle.hand_record.specs.Lengths.{record_length}
use Rattle.hand_record.proofs.laws.Lengths.{record_inside}
use Rattle.log_entry.proofs.laws.Parts.{from_on}
use Rattle.log_entry.proofs.laws.Records.{from_start, from_end, from_broken, turn_at}
use Rattle.log_entry.proofs.records_length.Goals as goal

-- the next record's length, at the bytes from its place on
next : (c : goal.In_ok-at) → c.in_ok-at.field-0 ≡ record_length (drop c.loop.at c.args.s.now)
next c = rw c.in_ok-at.was at c.record_length.ensures.value ∙ ap record_length (from_on c.loop.at c.args.s.now)

pub loop-init : goal.loop-init
loop-init c =
    let none_taken : c.args.n - 0 ≡ c.args.n = omega arith in
    record { inside = omega arith; each = omega arith; left = rw none_taken (from_start c.args.n c.args.s.now) }

pub returns-in_err-at-clause-value : goal.returns-in_err-at-clause-value
returns-in_err-at-clause-value c =
    let h = c.loop in
    let s = c.args.s.now in
    let z : 0 ≡ record_length (drop h.at s) = rw c.in_err-at.was at c.record_length.ensures.value ∙ ap record_length (from_on h.at s) in
    rw c.from_residual.ensures (sym (from_broken h.at (c.args.n - h.counter) (drop h.at s) (omega (arith, c.loop-test.true)) (sym z)) ∙ h.invariant.left)

pub overflow_add-at : goal.overflow_add-at
overflow_add-at c =
    let h = c.loop in
    omega (arith, h.invariant.inside, next c, (record_inside (drop h.at c.args.s.now)).1, length-drop h.at c.args.s.now)

pub loop-preserved : goal.loop-preserved
loop-preserved c =
    let h = c.loop in
    let s = c.args.s.now in
    let some = c.in_ok-at.ensures.some in
    let one_less : c.args.n - h.counter - 1 ≡ c.args.n - (h.counter + 1) = omega arith in
    record {
      inside = omega (arith, h.invariant.inside, next c, (record_inside (drop h.at s)).1, length-drop h.at s);
      each = omega (arith, h.invariant.each, some);
      left =
          rw (← one_less) (turn_at h.at (c.args.n - h.counter) c.in_ok-at.field-0 s (omega (arith, c.loop-test.true)) (next c) (λ z. omega (arith, z, some))
          ∙ h.invariant.left);
    }

pub returns-clause-value : goal.returns-clause-value
returns-clause-value c =
    let h = c.loop in
    let z : c.args.n - h.counter ≡ 0 = omega (arith, c.loop-test.false) in
    sym (from_end h.at (c.args.n - h.counter) (drop h.at c.args.s.now) z) ∙ h.invariant.left
