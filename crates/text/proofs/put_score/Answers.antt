-- The number passes through its bits unchanged.
use Rattle.std.proofs.Common.{arith, ap, length, length-append, to_z-of_z}
use Rattle.text.proofs.laws.Digits.{length_signed_32}
use Rattle.text.proofs.put_score.Goals as goal

pub push_signed-requires : goal.push_signed-requires
push_signed-requires c = (omega arith, rw (to_z-of_z c.ranges.n) (omega (arith, c.requires, length_signed_32 c.args.n c.ranges.n)))

pub push-requires : goal.push-requires
push-requires c =
    (omega arith, omega (arith, c.requires, length_signed_32 c.args.n c.ranges.n, simp length-append at (ap length (rw (to_z-of_z c.ranges.n) at c.push_signed.ensures))))

pub returns-clause-few : goal.returns-clause-few
returns-clause-few c =
    omega (arith, length_signed_32 c.args.n c.ranges.n, simp length-append at (ap length (rw (to_z-of_z c.ranges.n) at c.push_signed.ensures)), simp length-append at (ap length c.push.ensures))
