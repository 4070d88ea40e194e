use Rattle.claim_writer.proofs.laws.Found.{packed_0, packed_1}
use Rattle.claim_writer.proofs.pack_claim.Goals as goal

pub returns-then-c-eq0 : goal.returns-then-c-eq0
returns-then-c-eq0 c = packed_0 c.args.c c.if-c-eq0.true c.pack_regular.result c.pack_regular.ensures

pub returns : goal.returns
returns c = packed_1 c.args.c c.if-c-eq0.false c.pack_other.result c.pack_other.ensures
