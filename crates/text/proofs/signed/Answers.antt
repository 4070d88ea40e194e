-- The number passes through its bits unchanged.
use Rattle.std.proofs.Common.{arith, to_z-of_z}
use Rattle.text.proofs.laws.Digits.{length_signed_32}
use Rattle.text.proofs.signed.Goals as goal

pub push_signed-requires : goal.push_signed-requires
push_signed-requires c = (omega arith, rw (to_z-of_z c.ranges.n, c.new-text.ensures) (omega (arith, length_signed_32 c.args.n c.ranges.n)))

pub returns-clause-few : goal.returns-clause-few
returns-clause-few c = rw (c.push_signed.ensures, to_z-of_z c.ranges.n, c.new-text.ensures) (length_signed_32 c.args.n c.ranges.n)
