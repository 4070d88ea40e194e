use Rattle.std.proofs.Common.{List, ℤ, ap, ◌∙◌, rules}
use Rattle.position.specs.Ledger.{riichi_gives}
use Rattle.position.proofs.laws.Form.{few_sticks, score_within}
use Rattle.position.proofs.laws.Sums.{paid}
use Rattle.position_moves.proofs.laws.Steps.{riichi_applied}
use Rattle.position_moves.proofs.put_stick.Goals as goal

pub pay-requires : goal.pay-requires
pay-requires c = (λ i l. score_within c.args.p c.requires.form i l, c.stakes.ensures.1)

pub overflow_add-result : goal.overflow_add-result
overflow_add-result c = let k = few_sticks c.args.p c.requires.form in search rules

pub returns : goal.returns
unfolding riichi_gives
returns c =
    riichi_applied c.args.p c.args.seat c.requires c.pay.result c.declare.result
    (c.pay.ensures ∙ ap (λ (l : List ℤ). paid c.args.p.scores l) c.stakes.ensures.0) c.declare.ensures
