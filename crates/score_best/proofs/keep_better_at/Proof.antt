-- `score_best::keep_better_at` meets its contract.
use borrow.Author.Rules.{rules}
use mathlib.Core.Path.{◌∙◌}
use Rattle.score_best.proofs.laws.Keep.{kept_folded}
use Rattle.score_best.proofs.keep_better_at.Statement.{statement}
use Rattle.score_best.proofs.keep_better_at.Tie as tie

pub keep_better_at_spec : {M : Type 1} → statement M
keep_better_at_spec =
    tie.close
    (tie.spec (λ c κs. (c.requires.0, c.requires.1)) (λ c κs. search rules)
    (λ c.
    let w = c.before.worth_at in
    c.keep.ensures ∙ kept_folded _ _ _ _ c.before.before.requires.2 w.ensures.0 w.ensures.1))
