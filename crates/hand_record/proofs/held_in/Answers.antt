-- A run of m widths of 8, and after it one of 13 - 3m widths of 6.
use Rattle.bits.specs.Bits.{bits_of}
use Rattle.hand_record.proofs.laws.Read.{held_made}
use Rattle.hand_record.proofs.held_in.Goals as goal

pub returns : goal.returns
returns c = held_made c.args.at c.args.m (bits_of c.args.s.now) _ _ c.requires.0 c.run_into.ensures c.run_into-2.ensures
