-- The groups take 13 clips at most, whatever room their parts are given.
use Rattle.std.proofs.Common.{ap, length, arith, length-append}
use Rattle.speech_numerals.proofs.laws.Short.{english_short, eastern_short}
use Rattle.speech_numerals.proofs.add_number.Goals as goal

pub returns-in_default-eq2-clause-few : goal.returns-in_default-eq2-clause-few
returns-in_default-eq2-clause-few g c =
    omega (arith, english_short c.args.n c.ranges.n.fits, simp length-append at (ap length c.english.ensures))

pub returns-in_default-clause-few : goal.returns-in_default-clause-few
returns-in_default-clause-few g c =
    omega (arith, eastern_short c.args.language c.args.n c.ranges.n.fits, simp length-append at (ap length c.eastern.ensures))
