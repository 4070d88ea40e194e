-- The last record is all that is left, another as long as its m says.
use Rattle.std.proofs.Common.{sym, ◌∙◌}
use Rattle.hand_rons.proofs.laws.Cut.{cut_last, cut_more}
use Rattle.hand_rons.proofs.cut.Goals as goal

pub returns-then-last : goal.returns-then-last
returns-then-last c = sym (cut_last c.args.number c.args.s.now c.if-last.true)

pub returns : goal.returns
returns c = c.record_length.ensures.value ∙ sym (cut_more c.args.number c.args.s.now c.if-last.false)
