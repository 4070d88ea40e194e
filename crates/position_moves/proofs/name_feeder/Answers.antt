use Rattle.position.proofs.laws.Form.{score_within}
use Rattle.position.proofs.laws.Sums.{zeros_small}
use Rattle.position_moves.proofs.laws.Steps.{pao_applied}
use Rattle.position_moves.proofs.name_feeder.Goals as goal

pub pay-requires : goal.pay-requires
pay-requires c = (λ i l. score_within c.args.p c.requires.0.form i l, zeros_small)

pub returns : goal.returns
returns c =
    let a = c.args in
    pao_applied a.p a.holder a.feeder a.yaku c.requires.0 c.pay.result c.marks.result c.named.result c.pay.ensures
    c.marks.ensures c.named.ensures
