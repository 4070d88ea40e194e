-- `score_readings::dora_in` meets its contract.
use borrow.Author.Rules.{rules}
use mathlib.Core.Path.{ap}
use Rattle.points_value.specs.Han.{han}
use Rattle.score_readings.proofs.dora_in.Statement.{statement}
use Rattle.score_readings.proofs.dora_in.Tie as tie

pub dora_in_spec : {M : Type 1} → statement M
dora_in_spec =
    tie.close
    (tie.spec (λ c. rw c.if-yakuman.true) (λ c. search rules) (λ c. search rules) (λ c κs. search rules)
    (λ c. let tally = c.before.before in rw tally.before.if-yakuman.false (ap han c.han_of.ensures.0)))
