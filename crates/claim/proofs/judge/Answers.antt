-- What `try_judge` answers, flat.
use Rattle.claim.specs.Judge.{judged_of}
use Rattle.claim.proofs.laws.Judged.{both}
use Rattle.claim.proofs.judge.Goals as goal

pub returns-clause-judged : goal.returns-clause-judged
unfolding judged_of
returns-clause-judged c =
    let a = c.args in
    (both a.s.now a.claim.now a.dealer a.wind _ (rw (c.number.ensures.value, c.unwrap_or.ensures) c.try_judge-judged.ensures)).0
