use Rattle.std.specs.Prelude.{not}
use Rattle.std.proofs.Common.{arith, refl, ◌∙◌}
use Rattle.std.proofs.Math.Path.{ap}
use Rattle.speech_score.proofs.laws.Said.{unknown_by, given_by}
use Rattle.speech_table.proofs.say_scores.Goals as goal

pub returns-then-not-is_known : goal.returns-then-not-is_known
returns-then-not-is_known c = unknown_by _ _ _ _ c.is_known.ensures (ap not c.if-not-is_known.true) c.refused.ensures

pub returns : goal.returns
returns c =
    given_by _ _ _ _ c.is_known.ensures (ap not c.if-not-is_known.false) refl (omega arith)
    (c.as_slice.ensures ∙ c.scores_clips.ensures.value) c.give.ensures.value c.give.ensures.buf_after
