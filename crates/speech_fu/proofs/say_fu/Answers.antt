use Rattle.std.specs.Prelude.{not}
use Rattle.std.proofs.Common.{◌∙◌}
use Rattle.std.proofs.Math.Path.{ap}
use Rattle.score.specs.declared.Scored.{Scored}
use Rattle.speech_told.specs.Messages.{fu_message}
use Rattle.speech_score.proofs.laws.Said.{unknown_by, refused_by, given_by}
use Rattle.speech_fu.proofs.say_fu.Goals as goal

pub returns-then-not-is_known : goal.returns-then-not-is_known
returns-then-not-is_known c = unknown_by _ _ _ _ c.is_known.ensures (ap not c.if-not-is_known.true) c.refused.ensures

pub returns-then-a-gt0 : goal.returns-then-a-gt0
returns-then-a-gt0 c =
    refused_by _ _ _ _ c.is_known.ensures (ap not c.if-not-is_known.false) (ap (λ (x : Scored). x.refusal) c.score-a.ensures.value) c.if-a-gt0.true
    c.refused-then-a-gt0.ensures

pub returns : goal.returns
returns c =
    given_by _ _ _ _ c.is_known.ensures (ap not c.if-not-is_known.false) (ap (λ (x : Scored). x.refusal) c.score-a.ensures.value) c.if-a-gt0.false
    (c.as_slice.ensures ∙ c.message.ensures.value ∙ ap (fu_message _) c.score-a.ensures.value) c.give.ensures.value
    c.give.ensures.buf_after
