-- The places from this one on give what is left, and a yakuman is what they give.
use Rattle.std.proofs.Common.{◌≡◌, ℕ, sym, ◌∙◌, arith}
use Rattle.reading.specs.declared.Reading.{Reading}
use Rattle.reading.specs.search.Readings.{regular_of, placed_at}
use Rattle.reading.proofs.laws.Fold.{ranged_turn, ranged_done, ranged_still, placed_all, folded_with, folded_none}
use Rattle.points_value.specs.declared.Value.{Value}
use Rattle.score_best.specs.declared.Best.{Best}
use Rattle.score_best.specs.search.Best.{keep_better}
use Rattle.score_best.proofs.laws.Tried.{done_still}
use Rattle.score_search.proofs.places.Goals as goal
use Rattle.score_search.proofs.places.Goals.{then-holds+else-b, else-holds}

-- the reading with a place is the regular one of its pair and groups
placed_of : (worth : Reading → Value) (b x : Best) (r : Reading) (place : ℕ) → r.shape ≡ 0 →
    x ≡ keep_better worth b (record { shape = r.shape; pair = r.pair; groups = r.groups; place = place }) → x ≡ keep_better worth b (regular_of r.pair r.groups place)
placed_of worth b x r place z e = rw z at e

pub loop-place-init : goal.loop-place-init
loop-place-init c = (c.requires.2, placed_all (keep_better _) _ _ _ _ _)

pub keep_better_at-b-requires : goal.keep_better_at-b-requires
keep_better_at-b-requires c = (c.common_of-k.ensures, omega (arith, c.requires.1), c.loop-place.invariant.0)

pub returns-then-b : goal.returns-then-b
unfolding placed_at
returns-then-b c =
    ranged_still (keep_better _) _ _ _ _ (done_still _ _ c.if-b.true)
    ∙ ranged_turn (keep_better _) _ _ _ _ _ c.loop-place-test.true
    (folded_with (keep_better _) _ _ _ _ (sym c.if-holds.ensures) (placed_of _ _ _ c.args.r _ c.requires.3 c.keep_better_at-b.ensures))
    ∙ c.loop-place.invariant.1

pub loop-place-preserved : goal.loop-place-preserved
unfolding placed_at
loop-place-preserved c = (
  elim c.if-holds.branch [ then-holds+else-b w ↦ rw w.b-is w.if-b.false | else-holds w ↦ rw w.b-is c.loop-place.invariant.0 ],
  ranged_turn (keep_better _) _ _ _ _ _ c.loop-place-test.true
      (elim c.if-holds.branch [
        | then-holds+else-b w ↦
            w.b-is
            ∙ folded_with (keep_better _) _ _ _ _ (sym c.holds.ensures ∙ w.if-holds.true) (placed_of _ _ _ c.args.r _ c.requires.3 w.keep_better_at-b.ensures)
        | else-holds w ↦ w.b-is ∙ folded_none (keep_better _) _ _ _ (sym c.holds.ensures ∙ w.if-holds.false)
      ])
      ∙ c.loop-place.invariant.1,
)

pub returns : goal.returns
returns c = ranged_done (keep_better _) _ _ _ _ (omega arith) ∙ c.loop-place.invariant.1
