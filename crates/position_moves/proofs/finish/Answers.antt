use Rattle.std.proofs.Common.{rules}
use Rattle.position.specs.Ledger.{applied}
use Rattle.position.proofs.laws.Form.{score_within}
use Rattle.position_moves.specs.search.Finished.{finished}
use Rattle.position_moves.proofs.finish.Goals as goal

pub pay-requires : goal.pay-requires
pay-requires c = (λ i l. score_within c.args.p c.requires.0.form i l, c.requires.1)

pub returns : goal.returns
unfolding finished applied
returns c = rw (c.pay.ensures, c.next_dealer.ensures, c.next_wind.ensures, c.from.ensures, c.is_last.ensures) (search rules)
