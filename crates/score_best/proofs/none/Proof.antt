-- `score_best::none` meets its contract.
use borrow.Author.Rules.{rules}
use Rattle.score_best.specs.search.Best.{none_of}
use Rattle.score_best.proofs.none.Statement.{statement}
use Rattle.score_best.proofs.none.Tie as tie

pub none_spec : {M : Type 1} → statement M
unfolding none_of
none_spec = tie.close (tie.spec (λ c κs. search rules) (λ c κs. search rules) (λ c. rw (c.of_shape-r.ensures, c.before.base_alone-items.ensures)))
