use Rattle.std.proofs.Common.{arith, ◌∙◌, ◌≡◌, length}
use Rattle.speech_score.proofs.laws.Said.{short, long}
use Rattle.speech_score.proofs.give.Goals as goal

pub returns-then-short-clause-value : goal.returns-then-short-clause-value
returns-then-short-clause-value c = c.refused.ensures ∙ (short c.args.clips.now c.args.buf.now c.if-short.true).0

pub returns-then-short-clause-buf_after : goal.returns-then-short-clause-buf_after
returns-then-short-clause-buf_after c = (short c.args.clips.now c.args.buf.now c.if-short.true).1

pub returns-clause-value : goal.returns-clause-value
returns-clause-value c =
    let e : c.copy-n.result ≡ length c.args.clips.now = omega (arith, c.copy-n.ensures.count, c.if-short.false) in
    (long c.args.clips.now c.args.buf.now c.if-short.false e (rw e at c.copy-n.ensures.copied)).0

pub returns-clause-buf_after : goal.returns-clause-buf_after
returns-clause-buf_after c =
    let e : c.copy-n.result ≡ length c.args.clips.now = omega (arith, c.copy-n.ensures.count, c.if-short.false) in
    (long c.args.clips.now c.args.buf.now c.if-short.false e (rw e at c.copy-n.ensures.copied)).1
