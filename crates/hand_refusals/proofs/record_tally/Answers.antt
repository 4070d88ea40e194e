use Rattle.std.proofs.Common.{rules, arith}
use Rattle.hand.specs.Hand.{in_hand, hand_tally}
use Rattle.hand.specs.Refusals.{in_record}
use Rattle.hand.proofs.laws.Held.{hand_le, tally_room, tally_plus}
use Rattle.hand_refusals.proofs.record_tally.Goals as goal

pub add-requires : goal.add-requires
unfolding hand_tally
add-requires c =
    let h = c.args.h in
    let t = c.hand_tally in
    omega (arith, tally_room t.result (in_hand h) (search rules) t.ensures 30 (hand_le h) h.fields.indicator)

pub returns : goal.returns
unfolding hand_tally in_record
returns c =
    let h = c.args.h in
    let t = c.hand_tally in
    tally_plus t.result (in_hand h) (search rules) t.ensures c.add.result h.fields.indicator 1 (search rules) c.add.ensures
