use Rattle.std.proofs.Common.{◌∙◌}
use Rattle.hand_record.proofs.laws.Read.{count_at}
use Rattle.hand_record.proofs.meld_count.Goals as goal

pub returns : goal.returns
returns c = c.field.ensures ∙ count_at c.args.s.now
