-- What `try_write` answers, flat.
use Rattle.std.proofs.Common.{◌∙◌}
use Rattle.claim_writer.proofs.laws.Found.{writes_of}
use Rattle.claim_writer.proofs.write.Goals as goal

pub returns-clause-writes : goal.returns-clause-writes
returns-clause-writes c = writes_of c.args.c c.args.buf.now _ _ (c.from.ensures ∙ c.try_write.ensures.value) c.try_write.ensures.buf_after
