-- Score's refusal, a page too short, or the six lines.
use Rattle.std.proofs.Common.{◌++◌, ap, ◌∙◌, drop, rules}
use Rattle.score.specs.declared.Scored.{Scored}
use Rattle.slip.specs.Slip.{slip_text}
use Rattle.slip.proofs.laws.Score.{yakuman_zero}
use Rattle.slip.proofs.laws.Answer.{refused, too_short, written, same_zero}
use Rattle.slip.proofs.slip.Goals as goal

pub returns-then-a-gt0-clause-value : goal.returns-then-a-gt0-clause-value
returns-then-a-gt0-clause-value c = (refused _ c.score-a.result c.args.page.now c.score-a.ensures.value c.if-a-gt0.true).0

pub returns-then-a-gt0-clause-page_after : goal.returns-then-a-gt0-clause-page_after
returns-then-a-gt0-clause-page_after c = (refused _ c.score-a.result c.args.page.now c.score-a.ensures.value c.if-a-gt0.true).1

pub returns-then-page-lt150-clause-value : goal.returns-then-page-lt150-clause-value
returns-then-page-lt150-clause-value c =
    (too_short _ c.score-a.result c.args.page.now c.score-a.ensures.value c.if-a-gt0.false c.if-page-lt150.true).0

pub returns-then-page-lt150-clause-page_after : goal.returns-then-page-lt150-clause-page_after
returns-then-page-lt150-clause-page_after c =
    (too_short _ c.score-a.result c.args.page.now c.score-a.ensures.value c.if-a-gt0.false c.if-page-lt150.true).1

pub put_lines-requires : goal.put_lines-requires
put_lines-requires c =
    let a = c.args in
    record {
      in_bounds = search rules;
      fu_value = same_zero _ c.score-a.result a.page.now c.score-a.ensures.value (yakuman_zero a.s.now a.dealer a.wind);
    }

pub returns-clause-value : goal.returns-clause-value
returns-clause-value c =
    let page = c.args.page.now in
    let e = c.score-a.ensures.value in
    (written _ c.score-a.result page e c.if-a-gt0.false c.if-page-lt150.false _
    (c.put_lines.ensures ∙ ap (λ (a : Scored). slip_text a ++ drop 150 page) e)).0

pub returns-clause-page_after : goal.returns-clause-page_after
returns-clause-page_after c =
    let page = c.args.page.now in
    let e = c.score-a.ensures.value in
    (written _ c.score-a.result page e c.if-a-gt0.false c.if-page-lt150.false _
    (c.put_lines.ensures ∙ ap (λ (a : Scored). slip_text a ++ drop 150 page) e)).1
