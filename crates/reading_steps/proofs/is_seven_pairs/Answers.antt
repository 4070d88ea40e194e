-- The loop has found each kind so far held twice or not at all, and counted those held.
use Rattle.std.proofs.Common.{arith, ne_eqb}
use Rattle.reading.specs.Reading.{is_seven_pairs}
use Rattle.reading.proofs.laws.Counted.{counted_none, counted_one, counted_skip, counted_stop, counted_done}
use Rattle.reading_steps.proofs.is_seven_pairs.Goals as goal
use Rattle.reading_steps.proofs.is_seven_pairs.Goals.{then-n-ne0+else-no_pair, else-n-ne0}

pub loop-n-init : goal.loop-n-init
loop-n-init c = counted_none _ _

pub returns-then-no_pair : goal.returns-then-no_pair
unfolding is_seven_pairs
returns-then-no_pair c = counted_stop _ _ 34 _ _ c.loop-n-test.true (rw (ne_eqb _ _ c.if-n-ne0.true, ne_eqb _ _ c.if-no_pair.true))

pub overflow_add-kinds : goal.overflow_add-kinds
overflow_add-kinds c = omega (arith, c.loop-n.invariant.2)

pub loop-n-preserved : goal.loop-n-preserved
loop-n-preserved c =
    elim c.if-n-ne0.branch [
      | then-n-ne0+else-no_pair w ↦ rw w.kinds-is (counted_one _ _ _ _ c.loop-n.invariant (rw w.if-no_pair.false) (rw w.if-no_pair.false))
      | else-n-ne0 w ↦ rw w.kinds-is (counted_skip _ _ _ _ c.loop-n.invariant (rw w.if-n-ne0.false) (rw w.if-n-ne0.false))
    ]

pub returns : goal.returns
unfolding is_seven_pairs
returns c = counted_done _ _ 34 c.loop-n.n-index _ _ (omega arith) (omega arith) c.loop-n.invariant
