-- At a leaf with no tile left there is one splitting, and room for it; past it the codes from here on give what is left to list.
use Rattle.std.proofs.Common.{◌≡◌, [], ◌∷◌, ◌++◌, ℕ, List, length, length-append, append-nil, sym, ap, ◌∙◌, arith}
use Rattle.reading.proofs.laws.Found.{behind, behind_leaf, behind_over, behind_none, behind_skip, behind_step, behind_next, behind_stop, taken, taken_with, taken_none}
use Rattle.reading.proofs.laws.Found.{listed_more, listed_room}
use Rattle.score_search.proofs.+split.Goals as goal
use Rattle.score_search.proofs.+split.Goals.{Joined-taken, Then-is_empty, then-taken, else-taken}

leaf : (t : ℕ) (c : Then-is_empty t) → let a = c.args in behind a.size a.prefix a.left a.code a.t ≡ a.prefix ∷ []
leaf t c = behind_leaf _ _ _ _ _ c.if-left-eq0.true (sym c.if-is_empty.ensures)

pub push-requires : goal.push-requires
push-requires t c = omega (arith, ap length (leaf t c.before), c.requires.2)

pub returns-then-is_empty : goal.returns-then-is_empty
returns-then-is_empty t c = c.push.ensures ∙ ap (λ (z : List (List ℕ)). c.args.out.now ++ z) (sym (leaf t c.before.before))

pub returns-else-is_empty : goal.returns-else-is_empty
returns-else-is_empty t c = rw (behind_over c.args.size c.args.prefix c.args.left c.args.code c.args.t c.if-left-eq0.true (sym c.if-is_empty.ensures)) (sym (append-nil _))

pub split-requires : goal.split-requires
split-requires t c =
    let a = c.args in
    let k = c.in-Some.c in
    let n = c.in-Some.ensures in
    let skip = behind_skip a.size a.prefix a.left a.t c.if-left-eq0.false c.requires.0 c.loop-c.from k n.0 (omega (arith, n.1)) n.2 in
    let e = taken_with a.size a.prefix a.left k a.t c.without.result (sym c.if-taken.ensures) c.without.ensures in (
      omega arith,
      (
        omega arith,
        c.requires.1,
        listed_room c.loop-c.out _ _ _ _ (skip ∙ behind_step a.size a.prefix a.left k a.t c.if-left-eq0.false c.requires.0 n.1) c.loop-c.invariant _ 3 e
            (omega (arith, length-append a.out.now (behind a.size a.prefix a.left a.code a.t), c.requires.2)),
      ),
    )

-- what is listed once the code is done with
listed : (t : ℕ) (c : Joined-taken t) → let a = c.args in c.if-taken.out ≡ c.loop-c.out ++ taken a.size a.prefix a.left c.in-Some.c a.t
listed t c =
    elim c.if-taken.branch [
      | then-taken w ↦
          w.out-is ∙ w.split.ensures
          ∙ ap (λ (z : List (List ℕ)). c.loop-c.out ++ z) (taken_with _ _ _ _ _ _ (sym w.if-taken.ensures) w.without.ensures)
      | else-taken w ↦ w.out-is ∙ rw (taken_none c.args.size c.args.prefix c.args.left c.in-Some.c c.args.t (sym w.if-taken.ensures)) (sym (append-nil _))
    ]

pub returns-then-not-passes : goal.returns-then-not-passes
returns-then-not-passes t c =
    let a = c.args in
    let k = c.in-Some.c in
    let n = c.in-Some.ensures in
    let skip = behind_skip a.size a.prefix a.left a.t c.if-left-eq0.false c.requires.0 c.loop-c.from k n.0 (omega (arith, n.1)) n.2 in
    let stop = behind_stop a.size a.prefix a.left k a.t c.if-left-eq0.false c.requires.0 n.1 (sym c.if-not-passes.ensures) in
    sym (append-nil _) ∙ listed_more c.loop-c.out _ _ _ _ (skip ∙ stop) c.loop-c.invariant _ (listed t c.before.before)

pub loop-c-preserved : goal.loop-c-preserved
loop-c-preserved t c =
    let a = c.args in
    let k = c.in-Some.c in
    let n = c.in-Some.ensures in
    let skip = behind_skip a.size a.prefix a.left a.t c.if-left-eq0.false c.requires.0 c.loop-c.from k n.0 (omega (arith, n.1)) n.2 in
    let next = behind_next a.size a.prefix a.left k a.t c.if-left-eq0.false c.requires.0 n.1 (sym c.if-not-passes.ensures) in
    listed_more c.loop-c.out _ _ _ _ (skip ∙ next) c.loop-c.invariant _ (listed t c.before.before)

pub returns : goal.returns
returns t c =
    let a = c.args in
    sym (append-nil _)
    ∙ ap (λ (z : List (List ℕ)). c.loop-c.out ++ z) (sym (behind_none a.size a.prefix a.left a.t c.if-left-eq0.false c.requires.0 _ c.in_default.ensures))
    ∙ c.loop-c.invariant
