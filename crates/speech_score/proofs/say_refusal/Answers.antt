use Rattle.std.specs.Prelude.{not}
use Rattle.std.proofs.Common.{arith, refl}
use Rattle.std.proofs.Math.Path.{ap}
use borrow.Author.Tests.{lt-ltb, le-ltb}
use Rattle.speech_score.proofs.laws.Said.{unknown_by, refused_by, given_by}
use Rattle.speech_score.proofs.say_refusal.Goals as goal

pub returns-then-not-is_known : goal.returns-then-not-is_known
returns-then-not-is_known c = unknown_by _ _ _ _ c.is_known.ensures (ap not c.if-not-is_known.true) c.refused.ensures

pub returns-then-unknown : goal.returns-then-unknown
returns-then-unknown c =
    rw (lt-ltb _ _ c.if-unknown.true)
    (refused_by _ 8 _ _ c.is_known.ensures (ap not c.if-not-is_known.false) refl (omega arith) c.refused-then-unknown.ensures)

pub returns : goal.returns
returns c =
    rw (le-ltb _ _ c.if-unknown.false)
    (given_by _ 0 _ _ c.is_known.ensures (ap not c.if-not-is_known.false) refl (omega arith) refl c.give.ensures.value c.give.ensures.buf_after)
