-- `score::meld_ways` meets its contract: place by place.
use borrow.Author.Rules.{rules}
use Rattle.score.specs.search.HandCommon.{meld_ways}
use Rattle.score.proofs.meld_ways.Statement.{statement}
use Rattle.score.proofs.meld_ways.Tie as tie

pub meld_ways_spec : {M : Type 1} → statement M
unfolding meld_ways
meld_ways_spec =
    tie.close
    (tie.spec (λ c κs. search rules) (λ c κs. search rules) (λ c κs. search rules) (λ c κs. search rules)
    (λ c.
    let way-at2 = c.before.before in
    rw (c.way_at-4.ensures, c.before.way_at-3.ensures, way-at2.way_at-2.ensures, way-at2.before.way_at.ensures)))
