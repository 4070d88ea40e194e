-- m and the gain, then by the shape.
use Rattle.std.proofs.Common.{rules}
use Rattle.claim_writer.proofs.laws.Found.{found_far, found_0, found_1}
use Rattle.claim_writer.proofs.is_nameable.Goals as goal

pub returns-then-c : goal.returns-then-c
returns-then-c c = found_far c.args.c (search rules) c.if-c.true

pub returns-then-c-eq0 : goal.returns-then-c-eq0
returns-then-c-eq0 c = found_0 c.args.c (search rules) c.if-c.false c.if-c-eq0.true c.are_ordered.result c.are_ordered.ensures

pub returns : goal.returns
returns c = found_1 c.args.c (search rules) c.if-c.false c.if-c-eq0.false c.are_ordered-2.result c.are_ordered-2.ensures
