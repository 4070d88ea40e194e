-- A tally that splits is one card; else each kind from `low` on is one tile more.
use Rattle.std.proofs.Common.{sym, ◌∙◌, arith}
use Rattle.card_writer.proofs.laws.Count.{counted_one, counted_none, counted_end, counted_few, left_with, left_skip}
use Rattle.card_writer.proofs.+count.Goals.{then-room, else-room}
use Rattle.card_writer.proofs.+count.Goals as goal

pub returns-then-splits : goal.returns-then-splits
returns-then-splits t c = sym (counted_one c.args.d.groups c.args.left c.args.d.end c.args.low c.args.t c.if-left-eq0.true (sym c.splits.ensures.value ∙ c.if-splits.true))

pub returns-then-left-eq0 : goal.returns-then-left-eq0
returns-then-left-eq0 t c = sym (counted_none c.args.d.groups c.args.left c.args.d.end c.args.low c.args.t c.if-left-eq0.true (sym c.splits.ensures.value ∙ c.if-splits.false))

pub overflow_add-c : goal.overflow_add-c
overflow_add-c t c =
    let whole = counted_few c.args.d.groups c.args.left c.args.d.end c.args.low c.args.t c.requires.0 c.requires.2 in
    let turn = left_with c.args.d.groups c.args.left c.args.d.end c.loop-a.a c.args.t c.if-left-eq0.false c.loop-a-test.true c.loop-a.c _ c.loop-a.invariant.1 c.add.result c.count-c.result (rw c.from.ensures at c.if-room.true) c.add.ensures c.count-c.ensures in
    omega (arith, turn, whole)

pub loop-a-preserved : goal.loop-a-preserved
loop-a-preserved t c = (
  omega (arith, c.loop-a.invariant.0),
  elim c.if-room.branch [
    | then-room w ↦ rw w.c-is (left_with c.args.d.groups c.args.left c.args.d.end c.loop-a.a c.args.t c.if-left-eq0.false c.loop-a-test.true c.loop-a.c _ c.loop-a.invariant.1 w.add.result w.count-c.result (rw c.from.ensures at w.if-room.true) w.add.ensures w.count-c.ensures)
    | else-room w ↦ left_skip c.args.d.groups c.args.left c.args.d.end c.loop-a.a c.args.t c.if-left-eq0.false c.loop-a-test.true c.loop-a.c _ c.loop-a.invariant.1 _ (rw c.from.ensures at w.if-room.false) w.c-is
  ],
)

pub returns : goal.returns
returns t c = omega (arith, c.loop-a.invariant.1, counted_end c.args.d.groups c.args.d.end c.loop-a.a c.args.t c.args.left c.if-left-eq0.false c.loop-a-test.false)
