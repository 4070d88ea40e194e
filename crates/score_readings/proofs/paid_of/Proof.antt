-- `score_readings::paid_of` meets its contract: by whether the reading has a yaku.
use borrow.Author.Rules.{rules}
use mathlib.Core.Path.{sym, ◌∙◌}
use Rattle.score_readings.specs.Shown.{paid_of}
use Rattle.score_readings.proofs.paid_of.Statement.{statement}
use Rattle.score_readings.proofs.paid_of.Tie as tie

pub paid_of_spec : {M : Type 1} → statement M
unfolding paid_of
paid_of_spec =
    tie.close
    (tie.spec (λ c κs. search rules) (λ c κs. search rules)
    (λ c. rw (sym c.before.before.has_yaku.ensures ∙ c.before.if-has_yaku.true, c.changes-changes.ensures))
    (λ c. rw (sym c.before.has_yaku.ensures ∙ c.if-has_yaku.false)))
