-- Each start is tried.
use Rattle.std.proofs.Common.{◌-◌, arith}
use Rattle.ready_nearest.proofs.laws.Table.{Leads, start_low, top_melded, leads_seven, leads_regular, top_orphans, top_leads}
use Rattle.ready_nearest.proofs.start.Goals.{then-first-s, else-first-s}
use Rattle.ready_nearest.proofs.start.Goals as goal

pub returns-then-m-ne0 : goal.returns-then-m-ne0
returns-then-m-ne0 c = rw (c.state-s.ensures (4 - c.args.m) (omega arith)) (top_melded _ _ _ c.requires.0 c.if-m-ne0.true)

pub bounds-first-s : goal.bounds-first-s
bounds-first-s c = omega (arith, c.state-s.ensures (4 - c.args.m) (omega arith), start_low c.args.m)

pub bounds-first-s-2 : goal.bounds-first-s-2
bounds-first-s-2 c =
    elim c.if-first-s.branch [
      | then-first-s w ↦ omega (arith, w.s-is)
      | else-first-s w ↦ omega (arith, w.s-is, c.state-s.ensures (4 - c.args.m) (omega arith), start_low c.args.m)
    ]

pub returns-then-first-s-2 : goal.returns-then-first-s-2
returns-then-first-s-2 c =
    let leads : Leads c.args.t.now c.args.d.now c.args.m c.if-first-s.s =
    elim c.if-first-s.branch [
      | then-first-s w ↦ rw w.s-is (leads_seven _ _ _ _ c.requires.1 c.requires.0 c.if-m-ne0.false _ (c.state-s.ensures (4 - c.args.m) (omega arith)) w.if-first-s.true)
      | else-first-s w ↦ rw w.s-is (leads_regular _ _ _ _ c.requires.1 c.requires.0 c.if-m-ne0.false _ (c.state-s.ensures (4 - c.args.m) (omega arith)) w.if-first-s.false)
    ]
    in
    top_orphans _ _ _ _ c.requires.1 c.requires.0 c.if-m-ne0.false _ leads c.if-first-s-2.true

pub returns-else-first-s-2 : goal.returns-else-first-s-2
returns-else-first-s-2 c =
    let leads : Leads c.args.t.now c.args.d.now c.args.m c.if-first-s.s =
    elim c.if-first-s.branch [
      | then-first-s w ↦ rw w.s-is (leads_seven _ _ _ _ c.requires.1 c.requires.0 c.if-m-ne0.false _ (c.state-s.ensures (4 - c.args.m) (omega arith)) w.if-first-s.true)
      | else-first-s w ↦ rw w.s-is (leads_regular _ _ _ _ c.requires.1 c.requires.0 c.if-m-ne0.false _ (c.state-s.ensures (4 - c.args.m) (omega arith)) w.if-first-s.false)
    ]
    in
    top_leads _ _ _ _ c.requires.1 c.requires.0 c.if-m-ne0.false _ leads c.if-first-s-2.false
