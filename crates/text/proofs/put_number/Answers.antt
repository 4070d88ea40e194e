use Rattle.std.proofs.Common.{arith, ap, length, length-append}
use Rattle.text.proofs.laws.Digits.{length_digits_32}
use Rattle.text.proofs.put_number.Goals as goal

pub push_digits-requires : goal.push_digits-requires
push_digits-requires c = (omega arith, omega (arith, c.requires, length_digits_32 c.args.n c.ranges.n.fits))

pub push-requires : goal.push-requires
push-requires c = (omega arith, omega (arith, c.requires, length_digits_32 c.args.n c.ranges.n.fits, simp length-append at (ap length c.push_digits.ensures)))

pub returns-clause-few : goal.returns-clause-few
returns-clause-few c =
    omega (arith, length_digits_32 c.args.n c.ranges.n.fits, simp length-append at (ap length c.push_digits.ensures), simp length-append at (ap length c.push.ensures))
