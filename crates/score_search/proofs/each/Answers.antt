-- The splittings from this one on give what is left, and a yakuman is what they give.
use Rattle.std.proofs.Common.{◌∙◌, arith}
use Rattle.reading.proofs.laws.Fold.{ranged_turn, ranged_done, ranged_still}
use Rattle.score_best.specs.search.Best.{keep_better}
use Rattle.score_best.proofs.laws.Tried.{done_still}
use Rattle.score_search.proofs.each.Goals as goal

pub returns-then-b : goal.returns-then-b
returns-then-b c =
    ranged_still (keep_better _) _ _ _ _ (done_still _ _ c.if-b.true)
    ∙ ranged_turn (keep_better _) _ _ _ _ _ c.loop-groups-test.true c.places-b.ensures
    ∙ c.loop-groups.invariant.1

pub loop-groups-preserved : goal.loop-groups-preserved
loop-groups-preserved c =
    (c.if-b.false, ranged_turn (keep_better _) _ _ _ _ _ c.loop-groups-test.true c.places-b.ensures ∙ c.loop-groups.invariant.1)

pub returns : goal.returns
returns c = ranged_done (keep_better _) _ _ _ _ (omega arith) ∙ c.loop-groups.invariant.1
