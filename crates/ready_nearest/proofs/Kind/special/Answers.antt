-- Two choices, and no other can be made.
use Rattle.std.proofs.Common.{◌≡◌, sym, arith}
use Rattle.ready_choices.proofs.laws.Most.{most_none}
use Rattle.ready_nearest.proofs.laws.Kept.{made_more, made_not, special_done}
use Rattle.ready_nearest.proofs.Kind.special.Goals.{in-Some, in_default}
use Rattle.ready_nearest.proofs.Kind.special.Goals as goal

pub loop-e-init : goal.loop-e-init
loop-e-init c = sym (most_none _)

pub loop-e-preserved : goal.loop-e-preserved
loop-e-preserved c =
    let t = c.args.self.now.later.now in
    elim c.match-made.branch [
      | in-Some w ↦ rw w.v-is (made_more _ _ t _ _ c.requires.2 c.loop-e.e _ _ _ w.in-Some.ensures c.loop-e.invariant w.better-v.ensures)
      | in_default w ↦ rw w.v-is (made_not _ _ t _ _ c.loop-e.e _ w.in_default.ensures c.loop-e.invariant)
    ]

pub returns : goal.returns
returns c =
    let e : c.loop-e.e ≡ 2 = omega arith in
    special_done _ _ c.args.self.now.later.now _ _ c.requires.0 _ (rw e at c.loop-e.invariant)
