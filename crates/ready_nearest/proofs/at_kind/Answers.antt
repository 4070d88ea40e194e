-- The kind has room for what is not in a meld, and its row is small.
use Rattle.std.proofs.Common.{arith}
use Rattle.ready_nearest.proofs.laws.Table.{row_small}
use Rattle.ready_nearest.proofs.at_kind.Goals as goal

pub invariant_of-result : goal.invariant_of-result
invariant_of-result c = record {
  low = c.requires.0;
  four = c.requires.1 c.args.k;
  small = row_small _ _ _ _ (omega (arith, c.requires.0)) c.requires.1 c.requires.4;
}
