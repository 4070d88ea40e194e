-- After each call the most of the choices so far, and those after a `return` cannot be made.
use Rattle.std.proofs.Common.{◌≤◌, sym, ap, ◌∙◌, arith}
use Rattle.ready_choices.specs.search.Moves.{choices}
use Rattle.ready_choices.proofs.laws.Most.{most_none}
use Rattle.ready_nearest.proofs.laws.Kept.{pairs_none, pairs_one, pairs_two, takes_low, with_triplet, with_both, with_three, with_four, groups_done, runs_done}
use Rattle.ready_nearest.proofs.Kind.regular.Goals as goal

pub returns-then-q-eq0 : goal.returns-then-q-eq0
unfolding choices
returns-then-q-eq0 c =
    let none = c.with_pair-none.ensures 0 pairs_none (sym (most_none _)) in
    groups_done _ _ c.args.self.now.later.now _ c.args.q c.requires.0 c.requires.1 2 _ (ap choices c.if-q-eq0.true) none

pub better-triplet-requires : goal.better-triplet-requires
better-triplet-requires c = rw c.taking.ensures (takes_low c.args.q _ _ _ (omega (arith, c.if-q-eq0.false)) (omega arith))

pub returns-then-not-is_run_start : goal.returns-then-not-is_run_start
returns-then-not-is_run_start c =
    let none = c.with_pair-none.ensures 0 pairs_none (sym (most_none _)) in
    let triplet = with_triplet _ _ c.args.self.now.later.now _ c.args.q c.requires.0 c.requires.1 _ _ _ (omega (arith, c.if-q-eq0.false)) none c.taking.ensures c.better-triplet.ensures in
    runs_done _ _ c.args.self.now.later.now _ c.args.q c.requires.0 c.requires.1 (sym c.is_run_start.ensures ∙ c.if-not-is_run_start.true) _ triplet

pub returns-then-q-eq1 : goal.returns-then-q-eq1
unfolding choices
returns-then-q-eq1 c =
    let none = c.with_pair-none.ensures 0 pairs_none (sym (most_none _)) in
    let triplet = with_triplet _ _ c.args.self.now.later.now _ c.args.q c.requires.0 c.requires.1 _ _ _ (omega (arith, c.if-q-eq0.false)) none c.taking.ensures c.better-triplet.ensures in
    let one = c.with_pair-one.ensures 3 pairs_one triplet in
    groups_done _ _ c.args.self.now.later.now _ c.args.q c.requires.0 c.requires.1 5 _ (ap choices c.if-q-eq1.true) one

pub better-both-requires : goal.better-both-requires
better-both-requires c = rw c.taking-2.ensures (takes_low c.args.q _ _ _ (omega (arith, c.if-q-eq0.false, c.if-q-eq1.false)) (omega arith))

pub returns-then-two : goal.returns-then-two
unfolding choices
returns-then-two c =
    let none = c.with_pair-none.ensures 0 pairs_none (sym (most_none _)) in
    let triplet = with_triplet _ _ c.args.self.now.later.now _ c.args.q c.requires.0 c.requires.1 _ _ _ (omega (arith, c.if-q-eq0.false)) none c.taking.ensures c.better-triplet.ensures in
    let one = c.with_pair-one.ensures 3 pairs_one triplet in
    let left : 2 ≤ c.args.q.groups = omega (arith, c.if-q-eq0.false, c.if-q-eq1.false) in
    let two = c.with_pair-two.ensures 5 pairs_two one in
    let both = with_both _ _ c.args.self.now.later.now _ c.args.q c.requires.0 c.requires.1 _ _ _ left (sym c.is_run_start.ensures ∙ c.if-not-is_run_start.false) two c.taking-2.ensures c.better-both.ensures in
    groups_done _ _ c.args.self.now.later.now _ c.args.q c.requires.0 c.requires.1 8 _ (ap choices c.if-two.true) both

pub better-three-requires : goal.better-three-requires
better-three-requires c = rw c.taking-3.ensures (takes_low c.args.q _ _ _ (omega (arith, c.if-q-eq0.false, c.if-q-eq1.false, c.if-two.false)) (omega arith))

pub returns-then-q-eq3 : goal.returns-then-q-eq3
unfolding choices
returns-then-q-eq3 c =
    let none = c.with_pair-none.ensures 0 pairs_none (sym (most_none _)) in
    let triplet = with_triplet _ _ c.args.self.now.later.now _ c.args.q c.requires.0 c.requires.1 _ _ _ (omega (arith, c.if-q-eq0.false)) none c.taking.ensures c.better-triplet.ensures in
    let one = c.with_pair-one.ensures 3 pairs_one triplet in
    let left : 2 ≤ c.args.q.groups = omega (arith, c.if-q-eq0.false, c.if-q-eq1.false) in
    let two = c.with_pair-two.ensures 5 pairs_two one in
    let both = with_both _ _ c.args.self.now.later.now _ c.args.q c.requires.0 c.requires.1 _ _ _ left (sym c.is_run_start.ensures ∙ c.if-not-is_run_start.false) two c.taking-2.ensures c.better-both.ensures in
    let three = with_three _ _ c.args.self.now.later.now _ c.args.q c.requires.0 c.requires.1 _ _ _ (omega (arith, left, c.if-two.false)) (sym c.is_run_start.ensures ∙ c.if-not-is_run_start.false) both c.taking-3.ensures c.better-three.ensures in
    groups_done _ _ c.args.self.now.later.now _ c.args.q c.requires.0 c.requires.1 9 _ (ap choices c.if-q-eq3.true) three

pub better-requires : goal.better-requires
better-requires c = rw c.taking-4.ensures (takes_low c.args.q _ _ _ (omega (arith, c.if-q-eq0.false, c.if-q-eq1.false, c.if-two.false, c.if-q-eq3.false)) (omega arith))

pub returns : goal.returns
returns c =
    let none = c.with_pair-none.ensures 0 pairs_none (sym (most_none _)) in
    let triplet = with_triplet _ _ c.args.self.now.later.now _ c.args.q c.requires.0 c.requires.1 _ _ _ (omega (arith, c.if-q-eq0.false)) none c.taking.ensures c.better-triplet.ensures in
    let one = c.with_pair-one.ensures 3 pairs_one triplet in
    let left : 2 ≤ c.args.q.groups = omega (arith, c.if-q-eq0.false, c.if-q-eq1.false) in
    let two = c.with_pair-two.ensures 5 pairs_two one in
    let both = with_both _ _ c.args.self.now.later.now _ c.args.q c.requires.0 c.requires.1 _ _ _ left (sym c.is_run_start.ensures ∙ c.if-not-is_run_start.false) two c.taking-2.ensures c.better-both.ensures in
    let three = with_three _ _ c.args.self.now.later.now _ c.args.q c.requires.0 c.requires.1 _ _ _ (omega (arith, left, c.if-two.false)) (sym c.is_run_start.ensures ∙ c.if-not-is_run_start.false) both c.taking-3.ensures c.better-three.ensures in
    with_four _ _ c.args.self.now.later.now _ c.args.q c.requires.0 c.requires.1 _ _ _ (omega (arith, left, c.if-two.false, c.if-q-eq3.false)) (sym c.is_run_start.ensures ∙ c.if-not-is_run_start.false) three c.taking-4.ensures c.better.ensures
