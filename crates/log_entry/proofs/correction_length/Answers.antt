-- An entry without its header has 40 bytes at most.
use Rattle.std.proofs.Common.{sym, ◌∙◌, arith}
use Rattle.log_entry.specs.EntryKind.{number}
use Rattle.log_entry.proofs.laws.Lengths.{by_most, result_most}
use Rattle.log_entry.proofs.correction_length.Goals as goal

pub overflow_add-result : goal.overflow_add-result
overflow_add-result c =
    omega (arith, c.in_ok-length_by.ensures.value, by_most (number c.in_ok-k.k) c.argument.result c.in_ok-header.inner.now (λ z. omega (arith, z, result_most (number c.in_ok-k.k) (sym c.is_result.ensures ∙ c.if-not-is_result.false))))
