-- The choice of the runs alone, and with a pair.
use Rattle.std.proofs.Common.{◌+◌, arith}
use Rattle.ready_nearest.proofs.laws.Kept.{takes_more, pair_not, takes_low}
use Rattle.ready_nearest.proofs.Kind.with_pair.Goals as goal

pub better-w-requires : goal.better-w-requires
better-w-requires c = rw c.taking.ensures (takes_low c.args.q _ _ _ (omega (arith, c.requires.2)) (omega arith))

pub returns-then-none : goal.returns-then-none
returns-then-none c = λ e h p.
    let t = c.args.self.now.later.now in
    pair_not _ _ t _ c.args.q c.requires.0 c.requires.1 (e + 1) _ c.if-none.true h.pair.1
    (takes_more _ _ t _ c.args.q c.requires.0 c.requires.1 e _ _ _ _ _ h.runs.0 h.triplets.0 h.pair.0 (omega (arith, c.requires.2))
    (omega arith) c.requires.3 p _ c.taking.ensures c.better-w.ensures)

pub better-requires : goal.better-requires
better-requires c = rw c.taking-2.ensures (takes_low c.args.q _ _ _ (omega (arith, c.requires.2)) (omega (arith, c.if-none.false)))

pub returns : goal.returns
returns c = λ e h p.
    let t = c.args.self.now.later.now in
    takes_more _ _ t _ c.args.q c.requires.0 c.requires.1 (e + 1) _ _ _ _ _ h.runs.1 h.triplets.1 h.pair.1 (omega (arith, c.requires.2))
    (omega (arith, c.if-none.false)) c.requires.3
    (takes_more _ _ t _ c.args.q c.requires.0 c.requires.1 e _ _ _ _ _ h.runs.0 h.triplets.0 h.pair.0 (omega (arith, c.requires.2))
    (omega arith) c.requires.3 p _ c.taking.ensures c.better-w.ensures)
    _ c.taking-2.ensures c.better.ensures
