use Rattle.std.proofs.Common.{◌∙◌}
use Rattle.position_moves.proofs.laws.Steps.{chombo_applied}
use Rattle.position_moves.proofs.penalise.Goals as goal

pub returns : goal.returns
returns c =
    c.finish.ensures
    ∙ chombo_applied c.args.p c.args.f c.set_marks-b.result c.penalties-by.result c.count_true.result
    c.set_marks-b.ensures c.penalties-by.ensures.0 c.count_true.ensures.0
