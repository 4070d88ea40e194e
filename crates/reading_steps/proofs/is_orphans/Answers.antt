-- The loop has found each yaochu kind so far held once or twice and no other kind, and counted those held twice.
use Rattle.std.proofs.Common.{sym, arith, ne_eqb}
use Rattle.reading.specs.Reading.{is_orphans}
use Rattle.reading.proofs.laws.Counted.{counted_none, counted_one, counted_skip, counted_stop, counted_done}
use Rattle.reading_steps.proofs.is_orphans.Goals as goal
use Rattle.reading_steps.proofs.is_orphans.Goals.{in-true-eq2, in-true-eq1, in-true-eq1-2}

pub loop-k-init : goal.loop-k-init
loop-k-init c = counted_none _ _

pub returns-in_default : goal.returns-in_default
unfolding is_orphans
returns-in_default c =
    counted_stop _ _ 34 _ _ c.loop-k-test.true (rw (sym c.in_default.ensures, ne_eqb _ _ c.in_default.is-1.1, ne_eqb _ _ c.in_default.is-1.0.1))

pub returns-in_default-2 : goal.returns-in_default-2
unfolding is_orphans
returns-in_default-2 c = counted_stop _ _ 34 _ _ c.loop-k-test.true (rw (sym c.in_default.ensures, ne_eqb _ _ c.in_default.is-1.1))

pub overflow_add-twice : goal.overflow_add-twice
overflow_add-twice c = omega (arith, c.loop-k.invariant.2)

pub loop-k-preserved : goal.loop-k-preserved
loop-k-preserved c =
    elim c.if-is_yaochu.branch [
      | in-true-eq2 w ↦
          rw w.twice-is (counted_one _ _ _ _ c.loop-k.invariant (rw (sym w.in-true-eq2.ensures, w.in-true-eq2.is-1)) (rw w.in-true-eq2.is-1))
      | in-true-eq1 w ↦
          rw w.twice-is (counted_skip _ _ _ _ c.loop-k.invariant (rw (sym w.in-true-eq1.ensures, w.in-true-eq1.is-1)) (rw w.in-true-eq1.is-1))
      | in-true-eq1-2 w ↦
          rw w.twice-is (counted_skip _ _ _ _ c.loop-k.invariant (rw (sym w.in-true-eq1.ensures, w.in-true-eq1.is-1)) (rw w.in-true-eq1.is-1))
    ]

pub returns : goal.returns
unfolding is_orphans
returns c = counted_done _ _ 34 c.loop-k.k _ _ (omega arith) (omega arith) c.loop-k.invariant
