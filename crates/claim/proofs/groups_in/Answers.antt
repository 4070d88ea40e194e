-- A run of 4 - m widths of 7, then what was there.
use Rattle.bits.specs.Bits.{bits_of}
use Rattle.claim.proofs.laws.Bits.{groups_stored}
use Rattle.claim.proofs.groups_in.Goals as goal

pub returns : goal.returns
returns c = groups_stored c.args.m (bits_of c.args.s.now) _ c.requires.0 c.run_into.ensures
