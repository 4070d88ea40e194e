-- The shape, then the gain in three parts.
use Rattle.claim_writer.proofs.laws.Found.{other_stored}
use Rattle.claim_writer.proofs.pack_other.Goals as goal

pub returns : goal.returns
returns c = other_stored c.args.c c.requires c.pack_into.new.b c.pack_into.ensures
