use Rattle.std.proofs.Common.{rules, arith}
use Rattle.tiles.proofs.laws.Tally.{tally_ext}
use Rattle.hand.specs.Held.{in_others, in_held}
use Rattle.hand.proofs.laws.Held.{others_le, tally_at, tally_room}
use Rattle.hand.proofs.held_tally.Goals as goal

pub add_melds-requires : goal.add_melds-requires
add_melds-requires c k =
    let x = c.args.x in
    let t = c.others_tally in
    omega (arith, tally_room t.result (in_others x) (search rules) t.ensures 13 (others_le x) k)

pub returns : goal.returns
unfolding in_held
returns c =
    let x = c.args.x in
    let t = c.others_tally in
    tally_ext c.add_melds.result _ (search rules)
    (λ k g. omega (arith, c.add_melds.ensures k g, tally_at t.result (in_others x) (search rules) t.ensures k g))
