-- `score_best::full_reading` meets its contract.
use borrow.Author.Rules.{rules}
use Rattle.score_best.specs.search.HandCommon.{full_reading_in}
use Rattle.score_best.proofs.full_reading.Statement.{statement}
use Rattle.score_best.proofs.full_reading.Tie as tie

pub full_reading_spec : {M : Type 1} → statement M
unfolding full_reading_in
full_reading_spec = tie.close (tie.spec (λ c κs. search rules) (λ c. let mw = c.before.before in rw (c.ways_at-ways.ensures, mw.before.requires.0)))
