-- The best of the first e choices; those past the tries cannot be made.
use Rattle.std.proofs.Common.{◌≡◌, true, sym, ◌∙◌, arith}
use Rattle.ready_choices.specs.search.Moves.{live}
use Rattle.ready_nearest.specs.search.Found.{after}
use Rattle.ready_nearest.proofs.laws.Chosen.{chose_dead, chose_none, chose_with, chose_without, chose_not, tries_done}
use Rattle.ready_nearest.proofs.Kind.choose.Goals.{in-Some+then-b-value, in-Some+else-b-value, in_default}
use Rattle.ready_nearest.proofs.Kind.choose.Goals as goal

pub returns-then-not-is_live : goal.returns-then-not-is_live
returns-then-not-is_live c = chose_dead _ _ _ _ _ (rw c.in_state-q.ensures at (sym c.is_live.ensures ∙ c.if-not-is_live.true))

pub loop-e-init : goal.loop-e-init
loop-e-init c = chose_none _ _ _ _ _

pub loop-e-preserved : goal.loop-e-preserved
loop-e-preserved c =
    let k = c.args.self.now in
    let i = c.loop-e.invariant in
    let l : live k.kind c.args.s ≡ true = rw c.in_state-q.ensures at (sym c.is_live.ensures ∙ c.if-not-is_live.false) in
    elim c.match-made.branch [
      | in-Some+then-b-value w ↦ rw w.b-is (chose_with k.have k.room (after k.later.now) k.kind c.args.s l c.loop-e.e w.in-Some.m (rw c.in_state-q.ensures at w.in-Some.ensures) _ _ (omega (arith, c.tries-n.ensures.1)) w.value-value.ensures w.if-b-value.true i)
      | in-Some+else-b-value w ↦ rw w.b-is (chose_without k.have k.room (after k.later.now) k.kind c.args.s l c.loop-e.e w.in-Some.m (rw c.in_state-q.ensures at w.in-Some.ensures) _ _ w.value-value.ensures w.if-b-value.false i)
      | in_default w ↦ rw w.b-is (chose_not k.have k.room (after k.later.now) k.kind c.args.s c.loop-e.e _ (rw c.in_state-q.ensures at w.in_default.ensures) i)
    ]

pub returns : goal.returns
returns c =
    let k = c.args.self.now in
    let q : c.loop-e.e ≡ c.tries-n.result = omega arith in
    let n = rw c.in_state-q.ensures at c.tries-n.ensures.0 in
    tries_done k.have k.room (after k.later.now) k.kind c.args.s c.tries-n.result c.in_state-q.result c.loop-e.b c.in_state-q.ensures n (rw q at c.loop-e.invariant)
