-- What is left to test gives the whole.
use Rattle.std.proofs.Common.{sym, ◌∙◌}
use Rattle.claim.proofs.laws.Bits.{ascends_turn, ascends_done}
use Rattle.claim.proofs.ascend.Goals as goal

pub returns-then-not-low-c : goal.returns-then-not-low-c
returns-then-not-low-c c =
    let l = c.loop-c in
    sym (ascends_turn c.args.codes.now l.c-index l.low c.loop-c-test.true ∙ rw (← c.is_group.ensures, c.if-not-low-c.true)) ∙ l.invariant

pub loop-c-preserved : goal.loop-c-preserved
loop-c-preserved c =
    let l = c.loop-c in
    sym (ascends_turn c.args.codes.now l.c-index l.low c.loop-c-test.true ∙ rw (← c.is_group.ensures, c.if-not-low-c.false)) ∙ l.invariant

pub returns : goal.returns
returns c = let l = c.loop-c in sym (ascends_done c.args.codes.now l.c-index l.low c.loop-c-test.false) ∙ l.invariant
