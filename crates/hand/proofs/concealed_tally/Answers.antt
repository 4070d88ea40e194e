use Rattle.std.proofs.Common.{rules, arith}
use Rattle.hand.specs.Held.{in_others}
use Rattle.hand.specs.Hand.{in_concealed, concealed_tally}
use Rattle.hand.proofs.laws.Held.{others_le, tally_room, tally_plus}
use Rattle.hand.proofs.concealed_tally.Goals as goal

pub add-requires : goal.add-requires
add-requires c =
    let h = c.args.h in
    let t = c.others_tally in
    omega (arith, tally_room t.result (in_others h.held) (search rules) t.ensures 13 (others_le h.held) h.fields.winning)

pub returns : goal.returns
unfolding concealed_tally in_concealed
returns c =
    let h = c.args.h in
    let t = c.others_tally in
    tally_plus t.result (in_others h.held) (search rules) t.ensures c.add.result h.fields.winning 1 (search rules) c.add.ensures
