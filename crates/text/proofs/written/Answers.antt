use Rattle.std.proofs.Common.{◌≡◌, length, pos, get_or, rules, arith, ap, length-append, append_assoc, append-nil, add-one, w32, SFits, to_z-of_z}
use Rattle.text.proofs.laws.Line.{first_scores, line_fields}
use Rattle.text.proofs.written.Goals as goal

pub loop-score-init : goal.loop-score-init
unfolding first_scores
loop-score-init c = record { added = rw append-nil; few = omega arith }

pub put_score-requires : goal.put_score-requires
put_score-requires c =
    omega (
      arith,
      c.loop-score.invariant.few,
      c.put_number-2.ensures.few,
      simp length-append at (ap length c.push-2.ensures),
      simp length-append at (ap length c.push.ensures),
      c.put_number.ensures.few,
      ap length c.new-text.ensures,
    )

pub loop-score-preserved : goal.loop-score-preserved
unfolding first_scores
loop-score-preserved c =
    let f : SFits w32 (get_or c.args.scores c.loop-score.score-index (pos 0)) = search rules in
    let text = rw (to_z-of_z f) at c.put_score.ensures.added in
    record {
      added = rw (text, c.loop-score.invariant.added, add-one, append_assoc);
      few = omega (arith, c.loop-score.invariant.few, c.put_score.ensures.few);
    }

pub returns : goal.returns
returns c =
    let s = c.args in
    let k : c.loop-score.score-index ≡ 4 = omega arith in
    let scores = rw k at c.loop-score.invariant.added in
    rw (c.put_number-3.ensures.added, scores, c.put_number-2.ensures.added, c.from.ensures, c.push-2.ensures, c.push.ensures, c.put_number.ensures.added, c.new-text.ensures)
    (line_fields s.entry s.letter s.refusal s.scores s.sticks)
