use Rattle.std.proofs.Common.{◌≡◌, ◌∙◌, get_or, pos, append-nil, append_assoc, add-one, arith, rules, w32, SFits, to_z-of_z}
use Rattle.speech_table.proofs.laws.Four.{first_scores, all_four}
use Rattle.speech_table.proofs.put_four.Goals as goal

pub loop-seat-init : goal.loop-seat-init
unfolding first_scores
loop-seat-init c = record { added = rw append-nil; few = omega arith }

pub loop-seat-preserved : goal.loop-seat-preserved
unfolding first_scores
loop-seat-preserved c =
    let f : SFits w32 (get_or c.args.scores c.loop-seat.seat (pos 0)) = search rules in
    let said = rw (to_z-of_z f) at c.add_score.ensures.added in
    record { added = rw (said, c.loop-seat.invariant.added, add-one, append_assoc); few = omega arith }

pub returns-clause-added : goal.returns-clause-added
returns-clause-added c =
    let k : c.loop-seat.seat ≡ 4 = omega arith in
    c.loop-seat.invariant.added ∙ rw (k, all_four c.args.language c.args.dealer c.args.scores)
