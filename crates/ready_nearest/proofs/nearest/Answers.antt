-- The rows from k on have their values.
use Rattle.std.proofs.Common.{◌≡◌, ◌+◌, ◌-◌, length, refl, arith, rules}
use Rattle.ready_nearest.proofs.laws.Table.{Filling, filling_begin, filling_more, row_before}
use Rattle.ready_nearest.proofs.nearest.Goals as goal

pub loop-k-init : goal.loop-k-init
loop-k-init c = filling_begin _ _ _ refl (c.last_row.ensures _ _)

pub loop-k-preserved : goal.loop-k-preserved
loop-k-preserved c =
    let k = c.loop-k.k - 1 in
    let e : k + 1 ≡ c.loop-k.k = omega arith in
    let f : Filling c.args.t c.args.d (k + 1) c.loop-k.table = rw e c.loop-k.invariant in
    let (kind, have, room, later) = c.at_kind.ensures in
    let long : length c.row-row.result ≡ 80 = search rules in
    filling_more _ _ _ k _ (omega arith) f
    (row_before _ _ _ _ k (omega arith) (f.rows (k + 1) (omega arith) (omega arith)) long (rw (kind, have, room, later) at c.row-row.ensures))
