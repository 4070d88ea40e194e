-- Melds, tiles and padding are stored one after the other.
use Rattle.std.proofs.Common.{◌≡◌, ◌-◌, ◌*◌, length, rules, sym, ◌∙◌, arith, length-take-le}
use Rattle.std.proofs.Math.ListN.{length-replicate}
use Rattle.bits.proofs.laws.Pack.{take_replicate, below_replicate, sum_replicate}
use Rattle.hand_record.proofs.laws.Write.{held_packed}
use Rattle.hand_writer.proofs.pack_held.Goals as goal

pub pack_into-requires : goal.pack_into-requires
pack_into-requires c =
    let x = c.args.x in
    let long : length x.melds ≡ 4 = search rules in
    let l = length-take-le x.m x.melds (omega (arith, c.requires)) in
    rw (take_replicate x.m 4 8 c.requires.0) (
      length-replicate x.m 8 ∙ sym l,
      below_replicate 9 x.m 8 (omega arith),
      omega (arith, sum_replicate x.m 8, c.requires),
    )

pub pack_into-requires-2 : goal.pack_into-requires-2
pack_into-requires-2 c =
    let x = c.args.x in
    let long : length x.concealed ≡ 13 = search rules in
    let k = 13 - 3 * x.m in
    let l = length-take-le k x.concealed (omega arith) in
    rw (take_replicate k 13 6 (omega arith)) (
      length-replicate k 6 ∙ sym l,
      below_replicate 9 k 6 (omega arith),
      omega (arith, sum_replicate k 6, c.pack_into.auto, c.requires),
    )

pub returns : goal.returns
returns c =
    let x = c.args.x in
    let melds : length x.melds ≡ 4 = search rules in
    let concealed : length x.concealed ≡ 13 = search rules in
    held_packed x c.requires.0 (omega arith) (omega arith) c.args.at c.args.pad c.args.b.now
    c.pack_into.new.b c.pack_into-2.new.b c.put.new.b c.pack_into.ensures c.pack_into-2.ensures c.put.ensures
