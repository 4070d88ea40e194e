use Rattle.std.specs.Prelude.{not}
use Rattle.std.proofs.Common.{◌∙◌}
use Rattle.std.proofs.Math.Path.{ap}
use Rattle.speech_score.proofs.laws.Said.{unknown_by, refused_by, given_by}
use Rattle.speech_table.specs.Messages.{ready_message}
use Rattle.speech_table.proofs.say_ready.Goals as goal

pub returns-then-not-is_known : goal.returns-then-not-is_known
returns-then-not-is_known c = unknown_by _ _ _ _ c.is_known.ensures (ap not c.if-not-is_known.true) c.refused.ensures

pub returns-then-a-gt0 : goal.returns-then-a-gt0
returns-then-a-gt0 c =
    refused_by _ _ _ _ c.is_known.ensures (ap not c.if-not-is_known.false) c.find-a.ensures.refusal_value.0 c.if-a-gt0.true
    c.refused-then-a-gt0.ensures

pub returns : goal.returns
returns c =
    given_by _ _ _ _ c.is_known.ensures (ap not c.if-not-is_known.false) c.find-a.ensures.refusal_value.0 c.if-a-gt0.false
    (c.as_slice.ensures ∙ c.ready_clips.ensures.value ∙ ap (ready_message _) c.find-a.ensures.refusal_value.1)
    c.give.ensures.value c.give.ensures.buf_after
