-- `score_best::common_of` meets its contract: the groups of the reading with the melds'.
use borrow.Author.Rules.{rules}
use Rattle.score_best.proofs.common_of.Statement.{statement}
use Rattle.score_best.proofs.common_of.Tie as tie

pub common_of_spec : {M : Type 1} → statement M
common_of_spec =
    tie.close
    (tie.spec (λ c κs. search rules)
    (λ c κs.
    let mc = c.before.before in
    let x = mc.before.before in
    let r = x.before.before.requires in
    (r.tests, (r.round, r.own, r.dora)))
    (λ c. rw (← c.before.joined.ensures) c.common_of.ensures))
