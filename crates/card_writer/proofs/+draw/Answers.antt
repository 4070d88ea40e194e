-- A tally that splits is written; else each kind from `low` on is one tile more.
use Rattle.std.proofs.Common.{◌≡◌, ◌+◌, ◌-◌, length, take, set, sym, ◌∙◌, arith, rules}
use Rattle.card_writer.specs.search.Written.{written}
use Rattle.card_writer.proofs.laws.Put.{left_same, left_put, left_room, put_done, leaf_room, put_leaf, put_over, written_end, written_skip, turn_with}
use Rattle.card_writer.proofs.+draw.Goals.{then-room, else-room}
use Rattle.card_writer.proofs.+draw.Goals as goal

pub put_card-requires : goal.put_card-requires
put_card-requires t c =
    let l : length c.args.prefix ≡ 8 = search rules in
    (c.requires.1, leaf_room c.args.prefix c.args.t c.args.d.size c.args.left c.args.d.groups c.args.d.end c.args.low c.if-left-eq0.true c.args.at (length c.args.buf.now) (sym c.splits.ensures.value ∙ c.if-splits.true) (omega arith) c.requires.3)

pub returns-then-splits : goal.returns-then-splits
returns-then-splits t c = put_leaf c.args.prefix c.args.t c.args.d.size c.args.left c.args.d.groups c.args.d.end c.args.low c.if-left-eq0.true (sym c.splits.ensures.value ∙ c.if-splits.true) c.put_card.ensures

pub returns-then-left-eq0 : goal.returns-then-left-eq0
returns-then-left-eq0 t c = put_over c.args.prefix c.args.t c.args.d.size c.args.left c.args.d.groups c.args.d.end c.args.low c.if-left-eq0.true c.args.buf.now c.args.at (sym c.splits.ensures.value ∙ c.if-splits.false)

pub draw-e-requires : goal.draw-e-requires
draw-e-requires t c =
    let l : length c.args.prefix ≡ 8 = search rules in
    let a = c.loop-a.a in
    let turn = turn_with c.args.prefix c.args.t c.add.result c.args.d.size c.args.left c.args.d.groups c.args.d.end c.loop-a.a c.if-left-eq0.false c.requires.0 (omega (arith, c.requires.1)) c.loop-a-test.true (rw c.from.ensures at c.if-room.true) c.add.ensures in
    let r = left_room (written (take (c.args.d.size - (c.args.left - 1)) (set c.args.prefix (c.args.d.size - c.args.left) a)) c.args.d.groups (c.args.left - 1) c.args.d.end a c.add.result)
    (written (take (c.args.d.size - c.args.left) c.args.prefix) c.args.d.groups c.args.left c.args.d.end (a + 1) c.args.t) turn c.loop-a.invariant c.requires.3
    in
    (omega arith, (omega (arith, c.requires.0), c.requires.1, c.requires.2, r))

pub loop-a-preserved : goal.loop-a-preserved
loop-a-preserved t c =
    let l : length c.args.prefix ≡ 8 = search rules in
    elim c.if-room.branch [
      | then-room w ↦ rw (w.buf-is, w.e-is) (left_put (turn_with c.args.prefix c.args.t w.add.result c.args.d.size c.args.left c.args.d.groups c.args.d.end c.loop-a.a c.if-left-eq0.false c.requires.0 (omega (arith, c.requires.1)) c.loop-a-test.true (rw c.from.ensures at w.if-room.true) w.add.ensures) c.loop-a.invariant w.draw-e.ensures)
      | else-room w ↦ rw (w.buf-is, w.e-is) (left_same (written_skip _ _ _ _ _ _ c.if-left-eq0.false c.loop-a-test.true (rw c.from.ensures at w.if-room.false)) c.loop-a.invariant)
    ]

pub returns : goal.returns
returns t c = put_done (written_end _ _ _ _ _ _ c.if-left-eq0.false c.loop-a-test.false) c.loop-a.invariant
