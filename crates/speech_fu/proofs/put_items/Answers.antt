use Rattle.std.proofs.Common.{append-nil, append_assoc, add-one, arith, ◌≡◌, ◌∙◌}
use Rattle.speech_fu.proofs.laws.Items.{first_items, ten_items}
use Rattle.speech_fu.proofs.put_items.Goals as goal

pub loop-k-init : goal.loop-k-init
unfolding first_items
loop-k-init c = record { added = rw append-nil; few = omega arith }

pub loop-k-preserved : goal.loop-k-preserved
unfolding first_items
loop-k-preserved c = record { added = rw (c.add_counted.ensures.added, c.from.ensures, c.loop-k.invariant.added, add-one, append_assoc); few = omega arith }

pub returns-clause-added : goal.returns-clause-added
returns-clause-added c =
    let k : c.loop-k.k ≡ 10 = omega arith in
    c.loop-k.invariant.added ∙ rw (k, ten_items c.args.language c.args.x)
