use Rattle.std.proofs.Common.{◌∙◌, arith}
use Rattle.waits.proofs.laws.Over.{suit_done, suit_fits, honour_done}
use Rattle.waits.proofs.of_sort.Goals as goal

pub returns-then-c-ge3 : goal.returns-then-c-ge3
returns-then-c-ge3 c = honour_done _ _ c.if-c-ge3.true

pub total-requires : goal.total-requires
total-requires c = suit_fits c.args.t.now c.args.c _ c.requires.1 c.if-c-ge3.false (omega arith) c.requires.2

pub returns : goal.returns
returns c = c.total.ensures ∙ suit_done c.args.t.now c.args.c _ c.requires.1 c.if-c-ge3.false (omega arith)
