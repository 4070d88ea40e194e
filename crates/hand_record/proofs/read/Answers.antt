-- Return by return.
use Rattle.std.proofs.Common.{sym, ap, ◌∙◌, arith}
use Rattle.hand_record.specs.declared.Head.{Head}
use Rattle.hand_record.specs.Record.{length_of}
use Rattle.hand_record.proofs.laws.Read.{read_not, read_as}
use Rattle.hand_record.proofs.read.Goals as goal

pub returns-then-short : goal.returns-then-short
returns-then-short c = c.refused.ensures ∙ sym (read_not _ (λ f. omega arith))

pub returns-then-m-gt4 : goal.returns-then-m-gt4
returns-then-m-gt4 c = c.refused-then-m-gt4.ensures ∙ sym (read_not _ (λ f. omega (arith, ap (λ (x : Head). x.m) c.header-h.ensures)))

pub returns-then-n-m : goal.returns-then-n-m
returns-then-n-m c =
    c.refused-then-n-m.ensures
    ∙ sym (read_not _ (λ f. c.if-n-m.true (f.right ∙ ap (λ (x : Head). length_of x.m) (sym c.header-h.ensures))))

pub returns : goal.returns
returns c =
    c.hand_in.ensures
    ∙ read_as _ _ (ap (λ (x : Head). x.m) (sym c.header-h.ensures))
    (record { four = c.if-short.false; few = c.if-m-gt4.false; right = c.if-n-m.false })
